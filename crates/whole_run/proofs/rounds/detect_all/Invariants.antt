use Rattle.std.proofs.Common.{◌≡◌}
use Rattle.whole_run.specs.View.{now}
use Rattle.whole_run.specs.Takes.{CrewStands}
use Rattle.whole_run.specs.Notes.{KeepsAllNotes}
use Rattle.whole_run.specs.inner.Rounds.{left, Leaves}
use Rattle.whole_run.proofs.rounds.detect_all.Given as goal

abbrev pub invariant-detecting : goal.invariant-detecting
invariant-detecting g l = record {
  leaves : Leaves (g.E.Calls.view l.fn.engine) (g.E.Calls.view l.engine) (g.C.Crew.ready l.crew) (g.C.Crew.work l.crew)
      (g.C.Crew.posted l.crew);
  crew : CrewStands (g.E.Calls.view l.engine) (g.C.Crew.posted l.crew) (g.C.Crew.out l.crew);
  retired : (now (g.E.Calls.view l.engine)).retired ≡ (now (g.E.Calls.view l.fn.engine)).retired;
  notes : KeepsAllNotes (g.E.Calls.view l.fn.engine) (g.E.Calls.view l.engine) (g.N.Notes.tells l.fn.notes) (g.N.Notes.tells l.notes);
}

abbrev pub decreases-detecting : goal.decreases-detecting
decreases-detecting g l = left (g.E.Calls.view l.engine)
