use Rattle.std.proofs.Common.{◌≡◌, [], ap, sym, ◌∙◌, subst, SFits, w64, rules}
use Rattle.std.specs.Option.{IsSome}
use Rattle.std.proofs.lemmas.Bool.{false≢true}
use Rattle.std.proofs.lemmas.Int.{to_z-of_z}
use Rattle.record_store.specs.Lent.{put_back}
use Rattle.subthread.specs.inner.Places.{AreHandy, with_value}
use Rattle.subthread.proofs.Placing.{place_within}
use Rattle.subthread.proofs.Standing.{stands_has}
use Rattle.subthread.proofs.Handy.{none_back, first_back, searchable_rest, first_found, no_entry}
use Rattle.subthread.proofs.cells.restore.Goals as goal

pub put_there-requires-clause-bundle : goal.put_there-requires-clause-bundle
put_there-requires-clause-bundle c =
    place_within c.restoring.bundles c.in-Some-find_cell.at c.in-Some-find_cell.place
    (stands_has c.args.under.now c.in-Some.entry.0 c.in-Some-find_cell.at c.in-Some-find_cell.place c.restoring.bundles
    c.in-Some-find_cell.ensures)

pub put_there-requires-clause-place : goal.put_there-requires-clause-place
put_there-requires-clause-place c =
    stands_has c.args.under.now c.in-Some.entry.0 c.in-Some-find_cell.at c.in-Some-find_cell.place c.restoring.bundles
    c.in-Some-find_cell.ensures

pub restoring-preserved-in-Some-find_cell : goal.restoring-preserved-in-Some-find_cell
restoring-preserved-in-Some-find_cell c =
    let under = c.args.under.now in
    let fits : SFits w64 c.in-Some.entry.1 = search rules in
    let put =
    c.put_there.ensures ∙ ap (λ v. with_value c.in-Some-find_cell.at c.in-Some-find_cell.place v c.restoring.bundles)
    (to_z-of_z w64 c.in-Some.entry.1 fits) in
    let handy = subst (AreHandy under c.args.over.now c.restoring.bundles) c.in-Some.ensures.removal c.restoring.invariant.handy in
    rw put
    (record {
      handy =
          searchable_rest under c.args.over.now c.restoring.bundles c.in-Some.entry c.pop_first.new.self.entries c.in-Some-find_cell.at
          c.in-Some-find_cell.place handy;
      back =
          first_back under c.restoring.bundles c.in-Some.entry c.pop_first.new.self.entries c.in-Some-find_cell.at c.in-Some-find_cell.place
          handy.rising c.in-Some-find_cell.ensures
          ∙ ap (λ old. put_back under old c.restoring.bundles) (sym c.in-Some.ensures.removal)
          ∙ c.restoring.invariant.back;
    })

pub restoring-preserved : goal.restoring-preserved
restoring-preserved c = absurd (
    let handy =
    subst (AreHandy c.args.under.now c.args.over.now c.restoring.bundles) c.in-Some.ensures.removal c.restoring.invariant.handy in
    handy.within c.in-Some.entry.0 (first_found c.in-Some.entry c.pop_first.new.self.entries) c.in_default-find_cell.ensures)

pub returns : goal.returns
returns c =
    let some = c.pop_first.ensures.variant.1 in
    let none : c.restoring.olds.entries ≡ [] =
    no_entry c.restoring.olds.entries (λ less. false≢true (subst IsSome c.in_default.is (some less))) in
    sym (none_back c.args.under.now c.restoring.bundles) ∙ ap (λ old. put_back c.args.under.now old c.restoring.bundles) (sym none)
    ∙ c.restoring.invariant.back
