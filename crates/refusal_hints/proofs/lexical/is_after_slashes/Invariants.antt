use Rattle.std.proofs.Common.{◌≤◌, length}
use Rattle.refusal_hints.proofs.lexical.is_after_slashes.Given as goal

abbrev pub invariant-loop-from : goal.invariant-loop-from
invariant-loop-from l = l.from ≤ length l.program

abbrev pub decreases-loop-from : goal.decreases-loop-from
decreases-loop-from l = l.from
