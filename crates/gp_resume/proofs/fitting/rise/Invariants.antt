use Rattle.std.proofs.Common.{◌≤◌}
use Rattle.gp_resume.proofs.Rising.{RiseTo}
use Rattle.gp_resume.proofs.fitting.rise.Given as goal

abbrev pub invariant-loop-at : goal.invariant-loop-at
invariant-loop-at l = (1 ≤ l.at) × RiseTo l.cells l.at
