use Rattle.running_tests.proofs.Pairs.{one_distinct}
use Rattle.running_tests.proofs.stores.lends_cells.Goals as goal

pub lend-requires-clause-distinct : goal.lend-requires-clause-distinct
lend-requires-clause-distinct c = one_distinct c.in_ok-held.held 1 c.in_ok-held.ensures
