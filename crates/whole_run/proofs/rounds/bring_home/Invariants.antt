use Rattle.std.proofs.Common.{◌≡◌}
use Rattle.whole_run.specs.View.{now}
use Rattle.whole_run.specs.Gives.{struck_now, IsScouted}
use Rattle.whole_run.specs.Takes.{CrewStands}
use Rattle.whole_run.specs.Notes.{KeepsAllNotes}
use Rattle.whole_run.specs.inner.Rounds.{left, Leaves}
use Rattle.whole_run.proofs.rounds.bring_home.Given as goal

abbrev pub invariant-homing : goal.invariant-homing
invariant-homing g l = record {
  leaves : Leaves (g.E.Calls.view l.fn.engine) (g.E.Calls.view l.engine) (g.C.Crew.ready l.crew) (g.C.Crew.work l.crew)
      (g.C.Crew.posted l.crew);
  crew : CrewStands (g.E.Calls.view l.engine) (g.C.Crew.posted l.crew) (g.C.Crew.out l.crew);
  retired : (now (g.E.Calls.view l.engine)).retired ≡ (now (g.E.Calls.view l.fn.engine)).retired;
  struck : struck_now (g.E.Calls.view l.engine) ≡ struck_now (g.E.Calls.view l.fn.engine);
  scouted : IsScouted (g.E.Calls.view l.fn.engine) → IsScouted (g.E.Calls.view l.engine);
  notes : KeepsAllNotes (g.E.Calls.view l.fn.engine) (g.E.Calls.view l.engine) (g.N.Notes.tells l.fn.notes) (g.N.Notes.tells l.notes);
}

abbrev pub decreases-homing : goal.decreases-homing
decreases-homing g l = left (g.E.Calls.view l.engine)
