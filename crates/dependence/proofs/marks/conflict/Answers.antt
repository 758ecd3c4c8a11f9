use Rattle.std.proofs.Common.{rules}
use Rattle.dependence.proofs.marks.conflict.Goals as goal

pub returns : goal.returns
returns c = search rules
