use Rattle.std.proofs.Common.{rules}
use Rattle.whole_run.proofs.parts.posting.hand.Goals as goal

pub returns-clause-out : goal.returns-clause-out
returns-clause-out g c = search rules

pub returns-clause-posted : goal.returns-clause-posted
returns-clause-posted g c = search rules
