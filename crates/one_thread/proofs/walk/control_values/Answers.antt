use Rattle.std.proofs.Common.{◌∙◌}
use Rattle.one_thread.proofs.Forks.{controls-end}
use Rattle.one_thread.proofs.walk.control_values.Goals as goal

pub returns-in_default : goal.returns-in_default
returns-in_default g c =
    controls-end c.args.params.now c.args.es.now c.args.env.now c.loop-k.k c.loop-k.values c.in_default.ensures.lookup.0
    ∙ c.loop-k.invariant
