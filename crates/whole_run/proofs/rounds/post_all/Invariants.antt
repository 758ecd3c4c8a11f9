use Rattle.std.proofs.Common.{◌≡◌}
use Rattle.whole_run.specs.View.{now}
use Rattle.whole_run.specs.Gives.{struck_now}
use Rattle.whole_run.specs.Takes.{CrewStands}
use Rattle.whole_run.specs.Notes.{KeepsLeftBy}
use Rattle.whole_run.specs.inner.Rounds.{left, Leaves}
use Rattle.whole_run.proofs.Turns.{NoneBefore}
use Rattle.whole_run.proofs.rounds.post_all.Given as goal

abbrev pub invariant-posting : goal.invariant-posting
invariant-posting g l = record {
  leaves : Leaves (g.E.Calls.view l.fn.engine) (g.E.Calls.view l.engine) (g.C.Crew.ready l.crew) (g.C.Crew.work l.crew)
      (g.C.Crew.posted l.crew);
  crew : CrewStands (g.E.Calls.view l.engine) (g.C.Crew.posted l.crew) (g.C.Crew.out l.crew);
  retired : (now (g.E.Calls.view l.engine)).retired ≡ (now (g.E.Calls.view l.fn.engine)).retired;
  struck : struck_now (g.E.Calls.view l.engine) ≡ struck_now (g.E.Calls.view l.fn.engine);
  none : NoneBefore (g.E.Calls.view l.engine) l.from;
  left : KeepsLeftBy (g.E.Calls.view l.fn.engine) (g.E.Calls.view l.engine);
}

abbrev pub decreases-posting : goal.decreases-posting
decreases-posting g l = left (g.E.Calls.view l.engine)
