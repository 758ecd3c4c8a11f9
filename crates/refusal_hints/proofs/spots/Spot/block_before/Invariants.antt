use Rattle.std.proofs.Common.{◌≤◌, length}
use Rattle.refusal_hints.proofs.spots.Spot.block_before.Given as goal

abbrev pub invariant-loop-number : goal.invariant-loop-number
invariant-loop-number l = l.number ≤ length l.tokens

abbrev pub decreases-loop-number : goal.decreases-loop-number
decreases-loop-number l = l.number
