use Rattle.one_thread.specs.Runs.{IsSmall}
use Rattle.run_standing.proofs.Nearing.{Nears}
use Rattle.run_standing.proofs.standing.stand_before.Given as goal

abbrev pub invariant-loop-at : goal.invariant-loop-at
invariant-loop-at l = record {
  nears : Nears l.c.program l.inputs l.fn.limits l.position l.at l.run.value;
  small : IsSmall l.c.program;
}
