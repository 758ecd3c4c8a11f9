use Rattle.std.proofs.Common.{arith}
use Rattle.whole_run.proofs.parts.issuing.ring_turn.Goals as goal

pub turn-requires : goal.turn-requires
turn-requires c =
    let same = rw c.in-Settles.is at c.turn-first.ensures.spare in
    let kept = c.clear.ensures.spare in
    let had = c.requires.spare in
    omega arith
