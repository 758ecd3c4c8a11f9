use Rattle.std.proofs.Common.{arith}
use Rattle.reorder_list.proofs.Watching.{clear-at}
use Rattle.reorder_list.proofs.rol.Rol.runnable.Goals as goal

pub is_runnable-requires-clause-clear : goal.is_runnable-requires-clause-clear
is_runnable-requires-clause-clear c =
    let many = c.self.invariant.many in
    let l = c.in-Some.ensures.within in
    clear-at c.self.inside.entries.items c.self.inside.watches.items c.in-Some.place c.index.result.now c.self.invariant.kept.row l
    (omega arith) c.index.ensures c.self.invariant.marked.clear
