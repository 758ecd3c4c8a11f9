use Rattle.std.proofs.Common.{◌≡◌, ℕ, ◌<◌, List, get_or}
use Rattle.std.specs.Prelude.{ℤ}
use Rattle.subthread.proofs.attempts.same_lines.Given as goal

abbrev pub invariant-comparing : goal.invariant-comparing
invariant-comparing l = (k : ℕ) (d : List ℤ) → k < l.at → get_or l.a k d ≡ get_or l.b k d
