use Rattle.std.proofs.Common.{◌≤◌, length}
use Rattle.refusal_hints.proofs.blocks.Place.head_of.Given as goal

abbrev pub invariant-loop-first : goal.invariant-loop-first
invariant-loop-first l = l.first ≤ length l.self.tokens.now

abbrev pub decreases-loop-first : goal.decreases-loop-first
decreases-loop-first l = l.first
