use Rattle.one_thread.proofs.Walks.{Runs}
use Rattle.one_thread.proofs.walk.Walk.run.Given as goal

abbrev pub invariant-loop-body : goal.invariant-loop-body
invariant-loop-body g l = Runs l.fn.self l.self l.turns l.left

abbrev pub decreases-loop-body : goal.decreases-loop-body
decreases-loop-body g l = l.left
