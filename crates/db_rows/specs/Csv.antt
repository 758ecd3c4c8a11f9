-- The file that the rows of a query are.
use Rattle.std.specs.Prelude.{ℕ, List, [], map, drop, flat_map}
use Rattle.std.specs.Fmt.{signed_decimal}
use Rattle.csv.specs.Writing.{default_writer, row_text}
use Rattle.sqlite_value.specs.declared.value.Value.{Value}
use Rattle.sqlite_value.specs.declared.value.Value.TheVariants.{Int}
use Rattle.sqlite_value.specs.Order.{Row}

-- the field of a value: the digits of a whole number, and otherwise nothing
abbrev pub field_of : Value → List ℕ
field_of (Int n) = signed_decimal n
field_of _ = []

-- the fields of the rows, without their first columns
abbrev pub fields_in : (skip : ℕ) → List Row → List (List (List ℕ))
fields_in skip = map (λ row. map field_of (drop skip row))

-- what the crate `csv` writes of them
abbrev pub csv_of : (skip : ℕ) → List Row → List ℕ
csv_of skip rows = flat_map (row_text default_writer) (fields_in skip rows)
