use Rattle.std.proofs.Common.{◌≡◌, ◌∷◌, ◌++◌, [], true, map, ap, sym, ◌∙◌, subst, is_some}
use Rattle.std.specs.Ordering.{nat_cmp}
use Rattle.std.specs.FinMap.{find}
use Rattle.std.proofs.lemmas.List.{map_more, map-append, take_all}
use Rattle.record_store.specs.Given.{value_in}
use Rattle.record_store.specs.Lent.{new_write}
use Rattle.subthread.specs.inner.Hand.{written_to}
use Rattle.subthread.proofs.Placing.{place_within}
use Rattle.subthread.proofs.Standing.{stands_has, stands_value}
use Rattle.subthread.proofs.Struck.{found_at}
use Rattle.subthread.proofs.cells.changes_of.Goals as goal

pub unreachable-requires : goal.unreachable-requires
unreachable-requires c =
    c.requires.within c.cell.inside.0
    (subst (λ n. is_some (find nat_cmp n c.args.olds.now) ≡ true) (sym c.cell.view_is)
    (found_at c.args.olds.now c.noting.at c.index-olds-at.result c.requires.rising c.noting-test.true)) c.in_default.ensures

pub change_there-requires-clause-bundle : goal.change_there-requires-clause-bundle
change_there-requires-clause-bundle c =
    place_within c.args.bundles.now c.in-Some.bundle c.in-Some.place
    (stands_has c.args.under.now c.cell.inside.0 c.in-Some.bundle c.in-Some.place c.args.bundles.now c.in-Some.ensures)

pub change_there-requires-clause-place : goal.change_there-requires-clause-place
change_there-requires-clause-place c =
    stands_has c.args.under.now c.cell.inside.0 c.in-Some.bundle c.in-Some.place c.args.bundles.now c.in-Some.ensures

pub noting-preserved : goal.noting-preserved
noting-preserved c =
    let under = c.args.under.now in
    let bundles = c.args.bundles.now in
    let olds = c.args.olds.now in
    ap (map written_to) c.in_ok-push.ensures.items
    ∙ map-append written_to c.noting.changes.items (c.change_there.result ∷ [])
    ∙ (λ i. c.noting.invariant i
    ++ (c.change_there.ensures
    ∙ (λ j. (
      c.cell.view_is j,
      (sym (stands_value under c.cell.inside.0 c.in-Some.bundle c.in-Some.place bundles c.in-Some.ensures)
          ∙ ap (value_in under bundles) c.cell.view_is) j,
    ))) i ∷ [])
    ∙ sym (map_more (new_write under bundles) olds c.noting.at c.index-olds-at.result c.noting-test.true)

pub returns : goal.returns
returns c =
    c.noting.invariant ∙ ap (map (new_write c.args.under.now c.args.bundles.now))
    (take_all c.noting.at c.args.olds.now c.noting-test.false)
