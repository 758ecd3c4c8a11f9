use Rattle.whole_run.proofs.Settling.{settled-number}
use Rattle.whole_run.proofs.laws.settled_number_law.Goals as goal

pub returns : goal.returns
returns c = settled-number
