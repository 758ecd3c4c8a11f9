use Rattle.std.proofs.Common.{◌≡◌, map, ap, ◌∙◌, rules}
use Rattle.record_store.specs.Lent.{new_write}
use Rattle.subthread.specs.inner.Hand.{damaged_write}
use Rattle.subthread.specs.inner.Turning.{damaged_rest}
use Rattle.subthread.proofs.run.end.Goals as goal

pub returns-in-Ok-finish-clause-effect : goal.returns-in-Ok-finish-clause-effect
returns-in-Ok-finish-clause-effect c =
    let left = c.in-Ok-finish.left in
    let cells = c.args.doing.cells in
    let effect : c.with_sums-effect.result ≡ damaged_rest c.args.mask c.effect_of-effect.result =
    c.with_sums-effect.ensures ∙ search rules in
    let written : map (new_write cells.under left.0) left.1 ≡ map (damaged_write c.args.mask) cells.written = search rules in
    let rest = effect ∙ ap (damaged_rest c.args.mask) c.effect_of-effect.ensures in
    λ i. record {
      thread = (rest i).thread;
      writes = (ap (λ bundles. map (new_write cells.under bundles) left.1) c.left_at_rest.ensures ∙ written) i;
      regs = (rest i).regs;
      child = (rest i).child;
      prints = (rest i).prints;
    }
