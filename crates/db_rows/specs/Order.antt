-- Whether the rows of a query rise strictly by their first column.
use Rattle.std.specs.Prelude.{ℕ, ◌+◌, ℤ, Bool, true, false, List, [], ◌∷◌, Option, Some, None, if◌then◌else◌, int_lt}
use Rattle.sqlite_value.specs.declared.value.Value.{Value}
use Rattle.sqlite_value.specs.declared.value.Value.TheVariants.{Int}
use Rattle.sqlite_value.specs.Order.{Row, column}

-- the whole number that a value is, if it is one
abbrev pub number_in : Value → Option ℤ
number_in (Int n) = Some n
number_in _ = None

-- the number in the first column
abbrev pub key_of : Row → Option ℤ
key_of row = number_in (column row 0)

-- whether a row with this key may come after one with the last key, if there was one
abbrev pub comes_after : (last key : Option ℤ) → Bool
comes_after last None = false
comes_after None (Some key) = true
comes_after (Some last) (Some key) = int_lt last key

-- the number of the first row that doesn't come after the one before it, where the next has this number
abbrev pub unordered_from : (number : ℕ) → (last : Option ℤ) → List Row → Option ℕ
unordered_from number last [] = None
unordered_from number last (row ∷ rest) =
    if comes_after last (key_of row) then unordered_from (number + 1) (key_of row) rest else Some number

abbrev pub first_unordered : List Row → Option ℕ
first_unordered rows = unordered_from 1 None rows
