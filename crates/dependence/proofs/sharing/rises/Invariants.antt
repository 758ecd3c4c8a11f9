use Rattle.std.proofs.Common.{◌≤◌}
use Rattle.dependence.specs.inner.Rising.{RisesTo}
use Rattle.dependence.proofs.sharing.rises.Given as goal

abbrev pub invariant-loop-place : goal.invariant-loop-place
invariant-loop-place l = (1 ≤ l.place) × RisesTo l.locations l.place
