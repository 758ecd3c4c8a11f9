use Rattle.std.proofs.Common.{ap, is_some, arith}
use Rattle.reorder_list.proofs.Changes.{is-there}
use Rattle.running_tests.proofs.restarts.redo.Goals as goal

pub restart-requires-clause-there : goal.restart-requires-clause-there
restart-requires-clause-there c =
    let found =
    is-there 0 c.args.rol.now.entries c.args.struck c.requires.row (omega arith)
    (let eight = c.requires.eight in let below = c.requires.struck in omega arith) in
    ap is_some found.1
