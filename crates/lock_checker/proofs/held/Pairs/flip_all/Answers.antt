use Rattle.lock_checker.specs.inner.Pairs.{pairs_in}
use Rattle.lock_checker.proofs.PairLemmas.{leads_more}
use Rattle.lock_checker.proofs.held.Pairs.flip_all.Goals as goal

pub loop-p-preserved : goal.loop-p-preserved
loop-p-preserved c =
    leads_more (pairs_in c.args.self.now) (pairs_in c.loop-p.self)
    (pairs_in c.flip.new.self) c.args.changes.now c.loop-p.p-index _ c.loop-p-test.true c.loop-p.invariant c.in_ok-flip.ensures
