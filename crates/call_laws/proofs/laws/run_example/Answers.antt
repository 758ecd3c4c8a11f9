use Rattle.call_laws.proofs.RunExample.{run_example}
use Rattle.call_laws.proofs.laws.run_example.Goals as goal

pub returns : goal.returns
returns c = run_example
