-- The queries by which tables are read.
use Rattle.std.specs.Prelude.{ℕ, ◌==◌, List, [], ◌∷◌, ◌++◌, flat_map, codes, if◌then◌else◌}
use Rattle.task_ast.specs.meaning.Tree.{Name}
use Rattle.db_names.specs.declared.sources.Shape.{Shape}
use Rattle.db_names.specs.declared.sources.Shape.TheVariants.{Cells, Rows}
use Rattle.db_names.specs.declared.sources.Source.{Source}
use Rattle.db_names.specs.Tables.{table_of}

-- a byte of a name in quotes (34), which are doubled
abbrev pub doubled : ℕ → List ℕ
doubled b = if b == 34 then 34 ∷ 34 ∷ [] else b ∷ []

abbrev pub quoted : Name → List ℕ
quoted name = 34 ∷ (flat_map doubled name ++ 34 ∷ [])

-- the whole of a table
abbrev pub whole_of : Name → List ℕ
whole_of table = codes "select * from " ++ quoted table

-- what is read of a table: the cells of a record, or all columns in the order of the first
abbrev pub select_from : Name → Shape → List ℕ
select_from table (Cells name size) = codes "select cell, value from " ++ quoted table ++ codes " order by cell"
select_from table (Rows fields) = codes "select * from " ++ quoted table ++ codes " order by 1"

abbrev pub select_of : Source → List ℕ
select_of source = select_from (table_of source.file) source.shape
