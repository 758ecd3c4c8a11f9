use Rattle.call_laws.proofs.Logged.{logged_law}
use Rattle.call_laws.proofs.laws.logged_law.Goals as goal

pub returns : goal.returns
returns c = logged_law
