use Rattle.std.proofs.Common.{ap, subst}
use Rattle.std.specs.Option.{IfNone}
use Rattle.gp_base.specs.declared.ending.End.{End}
use Rattle.whole_run.specs.Gives.{HasFinished}
use Rattle.whole_run.proofs.engine_calls.EngineCalls.finished.Goals as goal

pub returns-clause-none : goal.returns-clause-none
returns-clause-none c =
    subst (λ view. IfNone c.finished.result ((ending : End) → ¬ HasFinished view ending))
    (ap (λ e. e.view) c.self.view_is) c.finished.ensures.none
