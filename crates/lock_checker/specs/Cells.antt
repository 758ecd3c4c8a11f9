-- The cells of an array, by the name of the array.
use Rattle.std.specs.Prelude.{ℕ, List, unwrap_or}
use Rattle.task_ast.specs.meaning.Tree.{Name}
use Rattle.task_ast.specs.meaning.Names.{named}
use Rattle.task_ast.specs.Layout.{base_of}
use Rattle.lock_checker.specs.declared.cells.CellRange.{CellRange}

-- the cells of the array of a name; where there is none, it has no cells
abbrev pub cells_of : List (Name × ℕ) → Name → CellRange
cells_of arrays x = record { first = unwrap_or (base_of arrays x) 0; size = unwrap_or (named x arrays) 0 }
