use Rattle.std.proofs.Common.{rules}
use Rattle.whole_run.proofs.parts.posting.take_back.Goals as goal

pub returns : goal.returns
returns c = search rules
