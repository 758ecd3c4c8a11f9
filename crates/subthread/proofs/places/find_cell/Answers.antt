use Rattle.std.proofs.Common.{Some, None, sym, subst}
use Rattle.task_ast.specs.meaning.Under.{under_lock}
use Rattle.subthread.specs.Places.{IsPlaceIn}
use Rattle.subthread.specs.inner.Places.{IsFoundAt}
use Rattle.subthread.proofs.Placing.{none_over, none_bundled, none_placed, stands_so}
use Rattle.subthread.proofs.places.find_cell.Goals as goal

pub returns-in_err-lock : goal.returns-in_err-lock
returns-in_err-lock c =
    subst (IsFoundAt c.args.under.now c.args.bundles.now c.args.cell) (sym c.from_residual.ensures)
    (none_over c.args.under.now c.args.over.now c.args.cell c.requires.over_is c.args.bundles.now (sym c.in_err-lock.ensures))

pub returns-in_err-at : goal.returns-in_err-at
returns-in_err-at c =
    subst (IsFoundAt c.args.under.now c.args.bundles.now c.args.cell) (sym c.from_residual-in_err-at.ensures)
    (none_bundled c.args.under.now c.args.over.now c.args.cell c.requires.over_is c.in_ok-lock.lock
    (sym c.in_ok-lock.ensures) c.args.bundles.now c.in_err-at.ensures)

pub returns-in_err-place : goal.returns-in_err-place
returns-in_err-place c =
    let none : IsPlaceIn (under_lock c.args.under.now c.in_ok-lock.lock) c.args.cell None =
    subst (λ cells. IsPlaceIn cells c.args.cell None) c.under_lock.ensures c.in_err-place.ensures in
    subst (IsFoundAt c.args.under.now c.args.bundles.now c.args.cell) (sym c.from_residual-in_err-place.ensures)
    (none_placed c.args.under.now c.args.over.now c.args.cell c.requires.over_is c.in_ok-lock.lock
    (sym c.in_ok-lock.ensures) c.args.bundles.now none)

pub returns : goal.returns
returns c =
    let place : IsPlaceIn (under_lock c.args.under.now c.in_ok-lock.lock) c.args.cell (Some c.in_ok-place.place) =
    subst (λ cells. IsPlaceIn cells c.args.cell (Some c.in_ok-place.place)) c.under_lock.ensures c.in_ok-place.ensures in
    stands_so c.args.under.now c.args.over.now c.args.cell c.requires.over_is c.in_ok-lock.lock (sym c.in_ok-lock.ensures)
    (c.requires.cells_rise c.in_ok-lock.lock) c.args.bundles.now c.in_ok-at.at
    c.in_ok-place.place c.requires.bundles_rise c.requires.sizes c.in_ok-at.ensures place
