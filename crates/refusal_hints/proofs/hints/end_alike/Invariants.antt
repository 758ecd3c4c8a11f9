use Rattle.std.proofs.Common.{◌≤◌, ◌-◌, length}
use Rattle.refusal_hints.proofs.hints.end_alike.Given as goal

abbrev pub invariant-loop-count : goal.invariant-loop-count
invariant-loop-count l = l.count ≤ length l.one

abbrev pub decreases-loop-count : goal.decreases-loop-count
decreases-loop-count l = length l.one - l.count
