-- Why tables can't be read.
use Rattle.std.specs.Prelude.{◌≡◌, ℕ, Bool, false, List, [], codes, Some, Ok, Err, ⊤}
use Rattle.std.specs.List.{list_any}
use Rattle.sqlite_value.specs.Order.{Row}
use Rattle.sqlite_trees.specs.Sound.{same_name}
use Rattle.sqlite_schema.specs.declared.schema.Schema.{Schema}
use Rattle.sqlite_resolve.specs.declared.compiled.Compiled.{Compiled}
use Rattle.sqlite_resolve.specs.declared.error.CompileError.TheVariants as compile
use Rattle.sqlite.specs.declared.error.ErrorCode.TheVariants as code
use Rattle.sqlite.specs.declared.error.Error.{Error}
use Rattle.sqlite.specs.declared.error.Error.TheVariants.{SqliteFailure, SqlInputError}
use Rattle.sqlite.specs.Store.{Ghosts}
use Rattle.sqlite.specs.Effect.{Database}
use Rattle.sqlite.specs.Listing.{understood}
use Rattle.sqlite.specs.Steps.{column_names}
use Rattle.db_names.specs.declared.sources.Shape.{Shape}
use Rattle.db_names.specs.declared.sources.Source.{Source}
use Rattle.db_names.specs.Tables.{table_of}
use Rattle.db_steps.specs.Shows.{Shows}
use Rattle.db_tables.specs.declared.fault.Column.{Column}
use Rattle.db_tables.specs.declared.fault.Column.TheVariants as of
use Rattle.db_tables.specs.declared.fault.TableFault.{TableFault}
use Rattle.db_tables.specs.declared.fault.TableFault.TheVariants.{BadName, NoTable, NoColumn, Order, Unreadable, OutOfMemory}
use Rattle.db_tables.specs.Queries.{whole_of, select_of}
use Rattle.db_tables.specs.Reading.{out_of_order}

-- what an error means for a table that is there
abbrev pub fault_of : Error → TableFault
fault_of (SqliteFailure code.OutOfMemory) = OutOfMemory
fault_of (SqlInputError compile.OutOfMemory) = OutOfMemory
fault_of error = Unreadable error

-- whether one of the columns has this name, in any case
abbrev pub has_column : List (List ℕ) → List ℕ → Bool
has_column columns name = list_any (λ column. same_name column name) columns

abbrev pub name_of : Column → List ℕ
name_of of.Cell = codes "cell"
name_of of.Value = codes "value"

-- the name is no text, or memory is out
abbrev pub IsPlain : TableFault → Type 0
IsPlain BadName = ⊤
IsPlain OutOfMemory = ⊤
IsPlain _ = ⊥

-- these columns lack one
abbrev pub IsMissing : List (List ℕ) → TableFault → Type 0
IsMissing columns (NoColumn column) = has_column columns (name_of column) ≡ false
IsMissing columns _ = ⊥

-- why a table that this query would show whole is not read, as far as its columns tell
abbrev pub IsSeenFault : Schema → List ℕ → TableFault → Type 0
IsSeenFault schema whole NoTable = understood schema whole ≡ Err compile.NoSuchTable
IsSeenFault schema whole (NoColumn column) =
    (c : Compiled) × (understood schema whole ≡ Ok c) × (has_column (column_names c) (name_of column) ≡ false)
IsSeenFault schema whole (Unreadable error) = ⊤
IsSeenFault schema whole OutOfMemory = ⊤
IsSeenFault schema whole _ = ⊥

-- the kit does not show the rows, or memory is out
abbrev pub IsReadFault : TableFault → Type 0
IsReadFault (Unreadable error) = ⊤
IsReadFault OutOfMemory = ⊤
IsReadFault _ = ⊥

-- the row of this number doesn't come in order, or memory is out
abbrev pub IsOrderFault : Shape → List Row → TableFault → Type 0
IsOrderFault shape rows (Order number) = out_of_order shape rows ≡ Some number
IsOrderFault shape rows OutOfMemory = ⊤
IsOrderFault shape rows _ = ⊥

-- why the table of a source is not read
abbrev pub IsCause : {S : Type 0} → Ghosts S → Source → (old new : Database) → TableFault → Type 0
IsCause g source old new NoTable = understood old.schema (whole_of (table_of source.file)) ≡ Err compile.NoSuchTable
IsCause g source old new (NoColumn column) =
    (c : Compiled) × (understood old.schema (whole_of (table_of source.file)) ≡ Ok c) × (has_column (column_names c) (name_of column) ≡ false)
IsCause g source old new (Order number) =
    (rows : List Row) × Shows g (select_of source) [] old new rows × (out_of_order source.shape rows ≡ Some number)
IsCause g source old new _ = ⊤
