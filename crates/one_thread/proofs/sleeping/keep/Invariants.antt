use Rattle.std.proofs.Common.{◌≡◌, ℕ, suc, ◌-◌, length}
use Rattle.one_thread.specs.inner.Sleeping.{way_at}
use Rattle.one_thread.proofs.sleeping.keep.Given as goal

-- a thread without a way gets none
abbrev pub invariant-loop-ways : goal.invariant-loop-ways
invariant-loop-ways l = (u : ℕ) → way_at l.ways.items u ≡ way_at l.fn.ways.items u

abbrev pub decreases-loop-ways : goal.decreases-loop-ways
decreases-loop-ways l = suc l.t - length l.ways.items
