use Rattle.task_ast.specs.Turn.{turns_left}
use Rattle.whole_run.specs.inner.Kept.{batch_in}
use Rattle.whole_run.specs.inner.Prepared.{KeepsView}
use Rattle.whole_run.proofs.parts.issuing.issue.Given as goal

abbrev pub invariant-turning : goal.invariant-turning
invariant-turning l = KeepsView (batch_in l.plan) l.initial.parts l.parts

abbrev pub decreases-turning : goal.decreases-turning
decreases-turning l = turns_left l.parts.ring.table
