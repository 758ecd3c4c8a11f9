use Rattle.std.proofs.Common.{◌∙◌, rules}
use Rattle.one_thread.proofs.Lefts.{left-popped, none-below}
use Rattle.one_thread.proofs.left.Left.first.Goals as goal

pub loop-self-preserved : goal.loop-self-preserved
loop-self-preserved c =
    left-popped c.loop-self.self c.in_ok-self.field-0 c.pop.new.self.items (none-below c.loop-self.self.present.now c.in_default.len_below)
    (search rules) ∙ c.loop-self.invariant
