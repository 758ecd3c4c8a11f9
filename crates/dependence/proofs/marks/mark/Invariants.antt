use Rattle.dependence.proofs.Marking.{MarkedBelow}
use Rattle.dependence.proofs.marks.mark.Given as goal

abbrev pub invariant-loop-position : goal.invariant-loop-position
invariant-loop-position l = MarkedBelow l.feet l.first l.marks l.position
