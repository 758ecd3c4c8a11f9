use Rattle.std.proofs.Common.{◌∙◌}
use Rattle.lock_checker.proofs.LayoutLemmas.{numbers-push}
use Rattle.lock_checker.proofs.layout.push_numbers.Goals as goal

pub loop-k-preserved : goal.loop-k-preserved
loop-k-preserved c =
    c.in_ok-push.ensures.items ∙ numbers-push c.args.over.now.items c.loop-k.over.items c.args.from c.loop-k.k c.loop-k.invariant
