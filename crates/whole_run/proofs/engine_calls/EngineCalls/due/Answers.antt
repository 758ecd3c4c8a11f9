use Rattle.std.proofs.Common.{◌≡◌, is_some, ap, subst}
use Rattle.whole_run.specs.Gives.{struck_now}
use Rattle.whole_run.proofs.engine_calls.EngineCalls.due.Goals as goal

pub returns : goal.returns
returns c = subst (λ view. c.due.result ≡ is_some (struck_now view)) (ap (λ e. e.view) c.self.view_is) c.due.ensures
