use Rattle.std.proofs.Common.{◌≤◌, length}
use Rattle.refusal_hints.proofs.blocks.line_start.Given as goal

abbrev pub invariant-loop-first : goal.invariant-loop-first
invariant-loop-first l = l.first ≤ length l.tokens

abbrev pub decreases-loop-first : goal.decreases-loop-first
decreases-loop-first l = l.first
