use Rattle.std.proofs.Common.{◌≡◌, map, take}
use Rattle.lock_checker.specs.inner.Positions.{positions}
use Rattle.task_ast.specs.meaning.Table.{numbers}
use Rattle.lock_checker.proofs.layout.cells_by_lock.Given as goal

abbrev pub invariant-loop-cell : goal.invariant-loop-cell
invariant-loop-cell l = l.under.items ≡ map (positions 0 (take l.cell l.over)) (numbers 0 l.locks)
