-- What the rows of a file of a feed mean.
use Rattle.std.specs.Prelude.{◌+◌, ◌*◌, ◌==◌, ℕ, ℤ, List, [], ◌∷◌, flat_map, if◌then◌else◌, nat_le, length, Option, Some, None, option_map, unwrap_or, Result}
use Rattle.std.specs.Option.{option_zip}
use Rattle.batch_files.specs.meaning.Numbers.{signed_number}
use Rattle.batch_files.specs.meaning.Rows.{Broken, Row, by_rule}
use Rattle.batch_files.specs.declared.fault.FileKind.{FileKind}
use Rattle.batch_files.specs.declared.fault.FileKind.TheVariants.{Fields, Number, TooMany}

-- the numbers that all fields of a row write, if each writes one
abbrev pub numbers_of : Row → Option (List ℤ)
numbers_of [] = Some []
numbers_of (field ∷ rest) = option_map (λ both. both.0 ∷ both.1) (option_zip (signed_number field) (numbers_of rest))

-- the rule that a row with as many fields as are asked for breaks
abbrev pub cells_rule : (fields room : ℕ) → List Row → Option (List ℤ) → Option FileKind
cells_rule fields room before None = Some Number
cells_rule fields room before (Some numbers) = if nat_le ((length before + 1) * fields) room then None else Some TooMany

-- the first rule that a row breaks after the rows before it, where there is room for so many cells
abbrev pub feed_rule : (fields room : ℕ) → List Row → Row → Option FileKind
feed_rule fields room before row = if length row == fields then cells_rule fields room before (numbers_of row) else Some Fields

-- the cells of all rows
abbrev pub cells_of : List Row → List ℤ
cells_of rows = flat_map (λ row. unwrap_or (numbers_of row) []) rows

-- the cells of a feed by its rows, or the first row that breaks a rule
abbrev pub feed_by : (fields room : ℕ) → List Row → Result (List ℤ) Broken
feed_by fields room = by_rule (feed_rule fields room) cells_of
