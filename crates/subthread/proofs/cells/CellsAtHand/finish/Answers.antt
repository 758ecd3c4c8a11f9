use Rattle.subthread.proofs.Among.{all_among}
use Rattle.subthread.proofs.cells.CellsAtHand.finish.Goals as goal

pub returns-clause-within : goal.returns-clause-within
returns-clause-within c =
    rw (← c.self.view_is, c.from_vec-2.ensures, c.in-Ok.ensures)
    (all_among c.self.inside.under.now c.self.inside.over.now c.self.inside.bundles.items c.self.inside.olds.entries c.self.invariant)
