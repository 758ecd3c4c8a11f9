use Rattle.std.proofs.Common.{ap, subst}
use Rattle.std.specs.Option.{IfNone}
use Rattle.whole_run.specs.Gives.{NoneToPost}
use Rattle.whole_run.proofs.engine_calls.EngineCalls.runnable.Goals as goal

pub returns-clause-none : goal.returns-clause-none
returns-clause-none c =
    subst (λ view. IfNone c.runnable.result (NoneToPost view c.args.from)) (ap (λ e. e.view) c.self.view_is) c.runnable.ensures.none
