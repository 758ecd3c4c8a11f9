use Rattle.std.proofs.Common.{◌≡◌, ◌-◌, ℕ, List, false}
use Rattle.task_ast.specs.Plain.{Plain}
use Rattle.gp_resume.specs.inner.Waves.{Sent, AreEmpty}
use Rattle.gp_resume.proofs.waves.send_beside.Given as goal

abbrev pub invariant-sending : goal.invariant-sending
invariant-sending g l = record {
  sent : (x : Plain) (before : List (ℕ × ℕ))
      → Sent l.fn.plan l.fn.threads x before (g.C.Crew.posted l.fn.crew) (g.C.Crew.out l.fn.crew) l.fn.course
      → Sent l.fn.plan l.fn.threads x before (g.C.Crew.posted l.crew) (g.C.Crew.out l.crew) l.course;
  places : AreEmpty (g.C.Crew.out l.crew) l.places.items;
  closed : l.course.ring.cleared ≡ false;
  is_ready : g.C.Crew.ready l.crew;
  work_is : g.C.Crew.work l.crew ≡ l.fn.plan.work.now;
}

abbrev pub decreases-sending : goal.decreases-sending
decreases-sending g l = l.fn.plan.limits.subthreads - l.course.issued
