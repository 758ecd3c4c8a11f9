use Rattle.std.proofs.Common.{◌↔◌, ap, subst}
use Rattle.std.specs.Prelude.{IsTrue}
use Rattle.whole_run.specs.Gives.{IsBack}
use Rattle.whole_run.proofs.engine_calls.EngineCalls.all_home.Goals as goal

pub returns : goal.returns
returns c = subst (λ view. IsTrue c.all_home.result ↔ IsBack view) (ap (λ e. e.view) c.self.view_is) c.all_home.ensures
