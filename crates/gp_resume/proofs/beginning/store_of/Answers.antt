use Rattle.gp_resume.proofs.Openings.{shared-out}
use Rattle.gp_resume.proofs.beginning.store_of.Goals as goal

pub new-requires : goal.new-requires
new-requires c = shared-out c.args.plan.now c.requires.suits c.args.cells c.requires.layout c.args.records c.requires.records
