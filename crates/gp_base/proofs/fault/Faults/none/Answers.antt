use Rattle.std.specs.List.{IsDistinct}
use Rattle.gp_base.proofs.fault.Faults.none.Goals as goal

pub new-requires-2-clause-apart : goal.new-requires-2-clause-apart
unfolding IsDistinct
new-requires-2-clause-apart c = rw c.new.ensures tt
