use Rattle.std.proofs.Common.{◌≤◌}
use Rattle.whole_run.specs.Takes.{CrewStands}
use Rattle.whole_run.specs.Notes.{KeepsNotes}
use Rattle.whole_run.specs.inner.Rounds.{left_to_know, Leaves, KeepsWritten}
use Rattle.whole_run.proofs.rounds.run_rounds.Given as goal

abbrev pub invariant-rounds : goal.invariant-rounds
invariant-rounds g l = record {
  leaves : Leaves (g.E.Calls.view l.fn.engine) (g.E.Calls.view l.engine) (g.C.Crew.ready l.crew) (g.C.Crew.work l.crew)
      (g.C.Crew.posted l.crew);
  crew : CrewStands (g.E.Calls.view l.engine) (g.C.Crew.posted l.crew) (g.C.Crew.out l.crew);
  written : KeepsWritten (g.E.Calls.view l.fn.engine) (g.E.Calls.view l.engine) (g.O.Sink.written l.fn.out) (g.O.Sink.written l.out);
  later : g.O.Sink.faults l.fn.out ≤ g.O.Sink.faults l.out;
  later' : g.L.Sink.faults l.fn.log ≤ g.L.Sink.faults l.log;
  notes : KeepsNotes (g.E.Calls.view l.fn.engine) (g.E.Calls.view l.engine) (g.N.Notes.tells l.fn.notes) (g.N.Notes.tells l.notes)
      (g.L.Sink.written l.fn.log) (g.L.Sink.written l.log);
}

abbrev pub decreases-rounds : goal.decreases-rounds
decreases-rounds g l = left_to_know (g.E.Calls.view l.engine)
