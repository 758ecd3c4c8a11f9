use Rattle.std.proofs.Common.{◌↔◌, ap, subst}
use Rattle.std.specs.Prelude.{IsTrue}
use Rattle.whole_run.specs.Gives.{IsScouted}
use Rattle.whole_run.proofs.engine_calls.EngineCalls.scouted.Goals as goal

pub returns : goal.returns
returns c = subst (λ view. IsTrue c.scouted.result ↔ IsScouted view) (ap (λ e. e.view) c.self.view_is) c.scouted.ensures
