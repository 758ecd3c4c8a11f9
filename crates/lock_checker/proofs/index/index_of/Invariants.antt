use Rattle.std.proofs.Common.{take}
use Rattle.lock_checker.specs.inner.Indexes.{Finds}
use Rattle.lock_checker.proofs.index.index_of.Given as goal

abbrev pub invariant-loop-task : goal.invariant-loop-task
invariant-loop-task l = Finds l.index l.program.heads (take l.task-index l.program.tasks)
