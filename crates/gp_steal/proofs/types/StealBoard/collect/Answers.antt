use Rattle.gp_steal.specs.Held.{about}
use Rattle.gp_steal.proofs.Steps.{collects}
use Rattle.desk_board.proofs.DeskLists.{times_from_Contains, times_none, below_from}
use Rattle.gp_steal.proofs.types.StealBoard.collect.Goals as goal

pub take_run-requires-clause-allowed : goal.take_run-requires-clause-allowed
take_run-requires-clause-allowed g c κs within =
    collects g.J.Job.fits g.J.Job.is_run _ _ _ _ _ (about c.args.self.now) c.requires.of.0.1
    (below_from _ _ _ c.requires.of.1 c.requires.seen) c.args.clerk.now.office (times_from_Contains _ _ c.requires.seen)
    (times_none _ _ c.requires.first)
