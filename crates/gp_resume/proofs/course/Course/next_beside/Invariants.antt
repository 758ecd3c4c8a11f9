use Rattle.std.proofs.Common.{◌≡◌, false, List}
use Rattle.task_ast.specs.Plain.{Plain}
use Rattle.task_ast.specs.Turn.{turns_left}
use Rattle.gp_resume.specs.inner.Flights.{Flown, Flight}
use Rattle.gp_resume.proofs.course.Course.next_beside.Given as goal

abbrev pub invariant-turning : goal.invariant-turning
invariant-turning l = record {
  flights : (x : Plain) (y : Plain) (fs : List Flown) → Flight l.fn.plan l.fn.threads x y fs l.initial.self
      → Flight l.fn.plan l.fn.threads x y fs l.self;
  closed : l.self.ring.cleared ≡ false;
}

abbrev pub decreases-turning : goal.decreases-turning
decreases-turning l = turns_left l.self.ring.table
