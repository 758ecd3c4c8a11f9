use Rattle.std.proofs.Common.{IfNone, subst}
use Rattle.reorder_list.specs.Entries.{Entered}
use Rattle.reorder_list.specs.Runnable.{NoneRunnable}
use Rattle.reorder_list.proofs.rol.Rol.next_runnable.Goals as goal

pub returns-clause-none : goal.returns-clause-none
returns-clause-none c =
    let Q : Entered → Type 0 = λ s. IfNone c.first_runnable.result (NoneRunnable s.entries c.args.from c.args.below) in
    subst Q c.self.view_is c.first_runnable.ensures.none
