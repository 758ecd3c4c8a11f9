use Rattle.std.proofs.Common.{◌≡◌, ◌++◌, ◌≤◌, drop}
use Rattle.gp_base.specs.declared.limits.TheConstants.{MOST_CELLS}
use Rattle.task_ast.specs.meaning.Names.{locks_of, records_of, cells_in}
use Rattle.lock_checker.specs.inner.Positions.{cells_over}
use Rattle.lock_checker.proofs.checked.Checked.locks_over.Given as goal

abbrev pub invariant-loop-head : goal.invariant-loop-head
invariant-loop-head l = record {
  found : l.over.items ++ cells_over (locks_of l.self.program.heads) (drop l.head-index l.self.program.heads)
      ≡ cells_over (locks_of l.self.program.heads) l.self.program.heads;
  small : cells_in (records_of (drop l.head-index l.self.program.heads)) ≤ MOST_CELLS;
}
