use Rattle.whole_run.specs.inner.Kept.{batch_in}
use Rattle.whole_run.proofs.Opened.{shared-out}
use Rattle.whole_run.proofs.parts.beginning.store_of.Goals as goal

pub new-requires : goal.new-requires
new-requires c = shared-out (batch_in c.args.plan.now) c.args.layout c.requires.suits c.args.records c.requires.records
