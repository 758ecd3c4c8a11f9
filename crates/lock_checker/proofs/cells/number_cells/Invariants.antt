use Rattle.std.proofs.Common.{◌≡◌, ◌+◌, drop}
use Rattle.task_ast.specs.meaning.Tree as plain
use Rattle.task_ast.specs.meaning.Names.{locks_of, records_of, cells_in}
use Rattle.lock_checker.specs.Tables.{found, or_else, cells_from}
use Rattle.lock_checker.proofs.cells.number_cells.Given as goal

abbrev pub invariant-loop-head : goal.invariant-loop-head
invariant-loop-head l = record {
  locks : (x : plain.Name)
      → or_else (found l.locks.cells x) (cells_from l.locks.count (locks_of (drop l.head-index l.heads)) x)
      ≡ cells_from 0 (locks_of l.heads) x;
  lock_count : l.locks.count + cells_in (locks_of (drop l.head-index l.heads)) ≡ cells_in (locks_of l.heads);
  records : (x : plain.Name)
      → or_else (found l.records.cells x) (cells_from l.records.count (records_of (drop l.head-index l.heads)) x)
      ≡ cells_from 0 (records_of l.heads) x;
  record_count : l.records.count + cells_in (records_of (drop l.head-index l.heads)) ≡ cells_in (records_of l.heads);
}
