use Rattle.call_laws.proofs.RunWords.{run_law}
use Rattle.call_laws.proofs.laws.run_law.Goals as goal

pub returns : goal.returns
returns c = run_law
