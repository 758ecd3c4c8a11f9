-- What the rows of a file of records mean.
use Rattle.std.specs.Prelude.{ℕ, zero, suc, ℤ, pos, ◌==◌, List, [], ◌∷◌, ◌++◌, if◌then◌else◌, is_some, length}
use Rattle.std.specs.Prelude.{Option, Some, None, option_map, unwrap_or, Result, Ok, Err}
use Rattle.std.specs.Option.{ok_or}
use Rattle.batch_files.specs.meaning.Numbers.{natural_below, field_number}
use Rattle.batch_files.specs.meaning.Rows.{Broken, Row, by_rule}
use Rattle.batch_files.specs.declared.fault.FileKind.{FileKind}
use Rattle.batch_files.specs.declared.fault.FileKind.TheVariants.{Fields, Number, Range, Twice}
use Rattle.batch_files.specs.declared.records.Entry.{Entry}

abbrev pub entry_with : (size : ℕ) → (index value : Option ℤ) → Result Entry FileKind
entry_with size (Some index) (Some value) =
    ok_or (option_map (λ below. record { index = below; value = value }) (natural_below size index)) Range
entry_with size index value = Err Number

-- the index and the value of a row, or the first rule that the row breaks by itself
abbrev pub entry_of : ℕ → Row → Result Entry FileKind
entry_of size row = if length row == 2 then entry_with size (field_number row 0) (field_number row 1) else Err Fields

-- the value of an entry at this index, and otherwise another
abbrev pub value_or : Result Entry FileKind → ℕ → Option ℤ → Option ℤ
value_or (Ok entry) index other = if entry.index == index then Some entry.value else other
value_or (Err kind) index other = other

-- the value that the first row of this index gives it, if one does
abbrev pub indexed_value : ℕ → List Row → ℕ → Option ℤ
indexed_value size [] index = None
indexed_value size (row ∷ rest) index = value_or (entry_of size row) index (indexed_value size rest index)

-- the first rule that a row breaks after the rows before it
abbrev pub entry_rule : ℕ → List Row → Result Entry FileKind → Option FileKind
entry_rule size before (Ok entry) = if is_some (indexed_value size before entry.index) then Some Twice else None
entry_rule size before (Err kind) = Some kind

abbrev pub record_rule : ℕ → List Row → Row → Option FileKind
record_rule size before row = entry_rule size before (entry_of size row)

-- the first n cells of a record; a cell without a row is 0
abbrev pub cells_below : (size n : ℕ) → List Row → List ℤ
cells_below size zero rows = []
cells_below size (suc n) rows = cells_below size n rows ++ unwrap_or (indexed_value size rows n) (pos 0) ∷ []

-- the cells of a record of this size by its rows, or the first row that breaks a rule
abbrev pub records_by : ℕ → List Row → Result (List ℤ) Broken
records_by size = by_rule (record_rule size) (cells_below size size)
