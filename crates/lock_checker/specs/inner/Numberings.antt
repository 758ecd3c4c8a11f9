-- Arrays whose cells are numbered.
use Rattle.std.specs.Prelude.{◌≡◌, ℕ, List}
use Rattle.task_ast.specs.meaning.Tree as plain
use Rattle.task_ast.specs.meaning.Names.{cells_in}
use Rattle.lock_checker.specs.declared.cells.Numbering.{Numbering}
use Rattle.lock_checker.specs.Tables.{found, cells_from}

-- the cells of these arrays are found, and counted
pub record IsNumbered (numbering : Numbering) (arrays : List (plain.Name × ℕ)) : Type 0 where
  pub cells : (x : plain.Name) → found numbering.cells x ≡ cells_from 0 arrays x
  pub count : numbering.count ≡ cells_in arrays
