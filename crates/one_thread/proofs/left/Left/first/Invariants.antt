use Rattle.std.proofs.Common.{◌≡◌, length}
use Rattle.one_thread.specs.inner.Remaining.{left_of}
use Rattle.one_thread.proofs.left.Left.first.Given as goal

abbrev pub invariant-loop-self : goal.invariant-loop-self
invariant-loop-self l = left_of l.self ≡ left_of l.fn.self

abbrev pub decreases-loop-self : goal.decreases-loop-self
decreases-loop-self l = length l.self.around.items
