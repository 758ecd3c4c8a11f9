use Rattle.std.proofs.Common.{◌≡◌, ◌++◌, drop}
use Rattle.task_ast.specs.View.{plain_program}
use Rattle.one_thread.specs.Runs.{IsSmall}
use Rattle.run_picture.specs.inner.Drawn.{values_from}
use Rattle.run_picture.proofs.Coming.{Comes}
use Rattle.run_picture.proofs.values.values_before.Given as goal

-- the variables so far, and those of the steps that are left, are all, and the run stands before the next step
abbrev pub invariant-loop-step : goal.invariant-loop-step
invariant-loop-step l = record {
  same : l.known.items ++ values_from (plain_program l.c.program) l.inputs l.fn.limits l.step-index (drop l.step-index l.order)
      ≡ values_from (plain_program l.c.program) l.inputs l.fn.limits 0 l.order;
  comes : Comes l.c.program l.inputs l.fn.limits l.step-index l.run.value;
  small : IsSmall l.c.program;
}
