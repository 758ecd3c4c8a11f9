use Rattle.std.proofs.Common.{ap, subst}
use Rattle.std.specs.Result.{IfOk}
use Rattle.whole_run.specs.Gives.{RetireGives}
use Rattle.whole_run.specs.inner.Kept.{batch_in, view_of}
use Rattle.whole_run.proofs.engine_calls.EngineCalls.retire.Goals as goal

pub returns-clause-gives : goal.returns-clause-gives
returns-clause-gives g c =
    subst (λ view. IfOk c.retire.result (RetireGives view (view_of (batch_in c.self.inside.plan) c.retire.new.parts)))
    (ap (λ e. e.view) c.self.view_is) c.retire.ensures.gives
