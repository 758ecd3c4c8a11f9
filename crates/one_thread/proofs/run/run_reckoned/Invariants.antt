use Rattle.std.proofs.Common.{◌-◌}
use Rattle.one_thread.specs.Runs.{IsSmall}
use Rattle.one_thread.specs.Moves.{Ahead}
use Rattle.one_thread.proofs.run.run_reckoned.Given as goal

abbrev pub invariant-loop-order : goal.invariant-loop-order
invariant-loop-order g l = record {
  ahead : Ahead l.c.program l.inputs l.fn.limits l.order l.run;
  small : IsSmall l.c.program;
}

-- fewer subthreads are left each time
abbrev pub decreases-loop-order : goal.decreases-loop-order
decreases-loop-order g l = l.fn.limits.subthreads - l.run.table.issued
