use Rattle.std.proofs.Common.{◌≡◌, ℕ, ◌<◌, map, get_or}
use Rattle.std.specs.Prelude.{ℤ}
use Rattle.subthread.specs.inner.Hand.{written_to}
use Rattle.subthread.proofs.erring.same_writes.Given as goal

abbrev pub invariant-comparing : goal.invariant-comparing
invariant-comparing l = (k : ℕ) (d : ℕ × ℤ) → k < l.at → get_or (map written_to l.changes) k d ≡ get_or l.writes k d
