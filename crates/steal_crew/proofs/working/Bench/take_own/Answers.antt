use Rattle.std.proofs.Common.{◌∙◌, arith}
use Rattle.steal_crew.proofs.working.Bench.take_own.Goals as goal

pub loop-turn-preserved : goal.loop-turn-preserved
loop-turn-preserved g c =
    let was = c.loop-turn.invariant in
    let tried = c.try_hint-claimed.ensures in
    record {
      idle = tried.idle;
      share = tried.share ∙ was.share;
      counted = let now = tried.claimed in let before = was.counted in omega (arith, now, before);
      few = let now = tried.few in let before = was.few in omega (arith, now, before);
    }
