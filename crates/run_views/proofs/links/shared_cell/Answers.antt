use Rattle.std.proofs.Common.{sym, ◌∙◌}
use Rattle.run_views.specs.meaning.Links.{is_shared}
use Rattle.run_views.proofs.Linking.{number-passed}
use Rattle.run_views.proofs.links.shared_cell.Goals as goal

pub loop-cell-preserved : goal.loop-cell-preserved
loop-cell-preserved c =
    sym (number-passed (is_shared c.args.first.now c.args.second.now) c.loop-cell.cell c.args.cells c.loop-cell-test.true
    (sym c.is_shared.ensures ∙ c.if-is_shared.false))
    ∙ c.loop-cell.invariant
