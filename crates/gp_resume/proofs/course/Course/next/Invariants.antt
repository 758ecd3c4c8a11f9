use Rattle.task_ast.specs.Turn.{turns_left}
use Rattle.gp_resume.specs.inner.Turning.{KeepsTurning}
use Rattle.gp_resume.proofs.course.Course.next.Given as goal

abbrev pub invariant-turning : goal.invariant-turning
invariant-turning l = KeepsTurning l.initial.self l.self

abbrev pub decreases-turning : goal.decreases-turning
decreases-turning l = turns_left l.self.ring.table
