use Rattle.std.proofs.Common.{◌∙◌, arith}
use Rattle.steal_crew.proofs.working.Bench.steal_each.Goals as goal

pub loop-place-preserved : goal.loop-place-preserved
loop-place-preserved g c =
    let was = c.loop-place.invariant in
    let tried = c.steal_from-claimed.ensures in
    record {
      idle = tried.idle;
      share = tried.share ∙ was.share;
      counted = let now = tried.claimed in let before = was.counted in omega (arith, now, before);
      few = let now = tried.few in let before = was.few in omega (arith, now, before);
    }
