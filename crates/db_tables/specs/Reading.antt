-- The files that tables are for a batch.
use Rattle.std.specs.Prelude.{◌≡◌, ℕ, List, [], ◌∷◌, Option, None}
use Rattle.sqlite_value.specs.Order.{Row}
use Rattle.sqlite.specs.Store.{Ghosts}
use Rattle.sqlite.specs.Effect.{Database}
use Rattle.task_ast.specs.meaning.Tree.{Name}
use Rattle.db_rows.specs.Csv.{csv_of}
use Rattle.db_rows.specs.Order.{first_unordered}
use Rattle.db_names.specs.declared.sources.Shape.{Shape}
use Rattle.db_names.specs.declared.sources.Shape.TheVariants.{Cells, Rows}
use Rattle.db_names.specs.declared.sources.Source.{Source}
use Rattle.db_steps.specs.Shows.{Shows}
use Rattle.db_tables.specs.Queries.{select_of}

-- how many columns are not handed on: the first of a feed's table orders its rows
abbrev pub skip_of : Shape → ℕ
skip_of (Cells name size) = 0
skip_of (Rows fields) = 1

-- the number of the first row that doesn't come in order
abbrev pub out_of_order : Shape → List Row → Option ℕ
out_of_order (Cells name size) rows = None
out_of_order (Rows fields) rows = first_unordered rows

module _ {S : Type 0} (g : Ghosts S) where
  -- The table shows rows in order, and the text is the file of them.
  pub record IsRead (source : Source) (old new : Database) (text : List ℕ) : Type 0 where
    pub rows : List Row
    pub shown : Shows g (select_of source) [] old new rows
    pub ordered : out_of_order source.shape rows ≡ None
    pub is : text ≡ csv_of (skip_of source.shape) rows

  abbrev pub IsFileRead : Source → (old new : Database) → Name × List ℕ → Type 0
  IsFileRead source old new file = (file.0 ≡ source.file) × IsRead source old new file.1

  -- the files of the tables, read one after the other
  abbrev pub ReadEach : List Source → (old new : Database) → List (Name × List ℕ) → Type 0
  ReadEach [] old new [] = old ≡ new
  ReadEach [] old new (file ∷ files) = ⊥
  ReadEach (source ∷ sources) old new [] = ⊥
  ReadEach (source ∷ sources) old new (file ∷ files) = (mid : Database) × IsFileRead source old mid file × ReadEach sources mid new files
