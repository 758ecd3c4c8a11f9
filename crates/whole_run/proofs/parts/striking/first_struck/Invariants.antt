use Rattle.std.proofs.Common.{◌≤◌, ◌-◌, length}
use Rattle.whole_run.specs.inner.Striking.{strikes}
use Rattle.whole_run.proofs.InOrder.{Misses}
use Rattle.whole_run.proofs.parts.striking.first_struck.Given as goal

abbrev pub invariant-striking : goal.invariant-striking
invariant-striking l = record {
  within : l.at ≤ length l.faults;
  missed : Misses (strikes l.any l.rol.entries l.front) l.faults 0 l.at;
}

abbrev pub decreases-striking : goal.decreases-striking
decreases-striking l = length l.faults - l.at
