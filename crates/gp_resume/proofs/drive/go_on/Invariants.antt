use Rattle.std.proofs.Common.{◌≡◌, ◌≤◌, ◌-◌, []}
use Rattle.task_ast.specs.Plain.{Plain}
use Rattle.gp_resume.specs.inner.Course.{Stands}
use Rattle.gp_resume.specs.inner.Going.{Went}
use Rattle.gp_resume.proofs.drive.go_on.Given as goal

abbrev pub invariant-going : goal.invariant-going
invariant-going g l = record {
  went : (x : Plain) → Stands l.fn.plan x l.fn.course
      → Went l.fn.plan x (g.O.Sink.written l.fn.out) (g.O.Sink.written l.out) (g.C.Crew.posted l.crew) l.course;
  is_ready : g.C.Crew.ready l.crew;
  work_is : g.C.Crew.work l.crew ≡ l.fn.plan.work.now;
  none_out : g.C.Crew.out l.crew ≡ [];
  later : g.O.Sink.faults l.fn.out ≤ g.O.Sink.faults l.out;
}

abbrev pub decreases-going : goal.decreases-going
decreases-going g l = l.fn.plan.limits.subthreads - l.course.issued
