use Rattle.std.proofs.Common.{◌≤◌, ℕ, List}
use Rattle.task_ast.specs.Plain.{Plain}
use Rattle.gp_resume.specs.inner.Flights.{Flown, Flight}
use Rattle.gp_resume.specs.inner.Waves.{tasks_of, AreRunsOf, Homing}
use Rattle.gp_resume.proofs.waves.bring_home.Given as goal

abbrev pub invariant-loop-run : goal.invariant-loop-run
invariant-loop-run g l = record {
  homing : (threads : ℕ) (x : Plain) (y : Plain) (fs : List Flown) → Flight l.fn._plan threads x y fs l.fn.course
      → AreRunsOf l.fn._plan.work.now (tasks_of l.fn._plan x fs) l.fn.runs.items
      → Homing l.fn._plan threads y fs (g.O.Sink.written l.fn.out) (g.O.Sink.written l.out) l.run-iterator.rest.items l.course;
  later : g.O.Sink.faults l.fn.out ≤ g.O.Sink.faults l.out;
}
