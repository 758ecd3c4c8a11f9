use Rattle.std.proofs.Common.{◌∙◌, arith}
use Rattle.gp_steal.specs.Held.{hand}
use Rattle.steal_crew.proofs.Holding.{swept_on}
use Rattle.steal_crew.proofs.working.Bench.sweep.Goals as goal

pub loop-pass-preserved : goal.loop-pass-preserved
loop-pass-preserved g c =
    let was = c.loop-pass.invariant in
    let tried = c.try_desk-claimed.ensures in
    let on =
    swept_on c.swept-desk.result (hand c.loop-pass.pass).swept (hand c.try_desk-claimed.new.pass).swept c.swept-desk.ensures
    tried.swept in
    record {
      idle = tried.idle;
      share = tried.share ∙ was.share;
      counted = let now = tried.claimed in let before = was.counted in omega (arith, now, before);
      few = let now = tried.few in let before = was.few in omega (arith, now, before, on);
    }
