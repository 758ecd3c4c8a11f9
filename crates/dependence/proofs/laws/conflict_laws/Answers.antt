use Rattle.dependence.proofs.Conflicting.{conflicting-is, Conflict-swap}
use Rattle.dependence.proofs.laws.conflict_laws.Goals as goal

pub returns : goal.returns
returns c = record { test = conflicting-is; swap = Conflict-swap }
