-- The heads visited so far.
use Rattle.std.specs.Prelude.{◌≡◌, List, map, is_some}
use Rattle.task_ast.specs.declared.tree.Head.{Head}
use Rattle.task_ast.specs.meaning.Tree.{Name}
use Rattle.task_ast.specs.meaning.Names.{is_among, head_name, locks_of, records_of, cells_in}
use Rattle.lock_checker.specs.declared.heads.Heads.{Heads}
use Rattle.lock_checker.specs.declared.symbol_table.SymbolTable.{SymbolTable}
use Rattle.lock_checker.specs.Tables.{found}

-- the table has these names and no other
pub record HasNames (table : SymbolTable (Unit {0})) (names : List Name) : Type 0 where
  pub same : (x : Name) → is_some (found table x) ≡ is_among x names

-- their names and cells are kept
pub record AreHeads (heads : Heads) (before : List Head) : Type 0 where
  pub names : HasNames heads.names (map head_name before)
  pub lock_cells : heads.lock_cells ≡ cells_in (locks_of before)
  pub record_cells : heads.record_cells ≡ cells_in (records_of before)
