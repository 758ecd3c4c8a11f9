use Rattle.std.proofs.Common.{◌≤◌, length}
use Rattle.dependence.specs.inner.Rising.{AreBelow}
use Rattle.dependence.proofs.sharing.place_from.Given as goal

abbrev pub invariant-loop-place : goal.invariant-loop-place
invariant-loop-place l = (l.place ≤ length l.locations) × AreBelow l.locations l.place l.loc
