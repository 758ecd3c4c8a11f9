use Rattle.std.proofs.Common.{rules}
use Rattle.reorder_list.proofs.touched.Touched.mark.Goals as goal

pub returns-clause-marked : goal.returns-clause-marked
returns-clause-marked c = search rules
