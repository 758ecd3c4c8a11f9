use Rattle.std.proofs.Common.{map, ap, sym, ◌∙◌, subst}
use Rattle.record_store.specs.Lent.{lock_in}
use Rattle.task_ast.specs.meaning.Under.{is_under}
use Rattle.subthread.specs.inner.Hand.{Hand}
use Rattle.subthread.specs.inner.Places.{IsFoundAt}
use Rattle.subthread.proofs.Among.{found_under}
use Rattle.subthread.proofs.cells.CellsAtHand.has.Goals as goal

pub returns : goal.returns
returns c =
    λ some.
    sym (ap (λ (h : Hand). is_under h.under (map lock_in h.came) c.args.cell) c.self.view_is)
    ∙ found_under c.self.inside.under.now c.self.inside.olds.entries c.args.cell c.self.inside.bundles.items c.find_cell.result
    (subst (λ bundles. IsFoundAt c.self.inside.under.now bundles c.args.cell c.find_cell.result) c.deref.ensures.value c.find_cell.ensures)
    (sym c.is_some.ensures ∙ some)
