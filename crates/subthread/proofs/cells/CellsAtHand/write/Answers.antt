use Rattle.std.proofs.Common.{◌≡◌, ◌<◌, length, ap, sym, ◌∙◌, SFits, w64, rules, subst, map}
use Rattle.std.proofs.lemmas.Int.{to_z-of_z}
use Rattle.std.proofs.lemmas.List.{with_items_is}
use Rattle.record_store.specs.Lent.{lock_in, put_back, new_write}
use Rattle.subthread.specs.inner.Places.{StandsAt, AllLack, value_at, with_value}
use Rattle.subthread.specs.inner.Hand.{Hand, with_old}
use Rattle.subthread.proofs.Among.{under_now}
use Rattle.task_ast.specs.meaning.Under.{is_under}
use Rattle.subthread.proofs.Placing.{place_within}
use Rattle.subthread.proofs.Standing.{stands_has}
use Rattle.subthread.proofs.Written.{came_same, written_then}
use Rattle.subthread.proofs.Handy.{handy_with}
use Rattle.subthread.proofs.cells.CellsAtHand.write.Goals as goal
use Rattle.subthread.proofs.cells.CellsAtHand.write.Goals.{After-deref-2, After-self-1}

stands : (c : After-deref-2) → StandsAt c.self.inside.under.now c.args.cell c.in-Some.at c.in-Some.place c.self.inside.bundles.items
stands c = subst (StandsAt c.self.inside.under.now c.args.cell c.in-Some.at c.in-Some.place) c.deref.ensures.value c.in-Some.ensures

pub unreachable-requires : goal.unreachable-requires
unreachable-requires c =
    under_now c.self.inside.under.now c.self.inside.olds.entries c.args.cell c.self.inside.bundles.items
    (ap (λ (h : Hand). is_under h.under (map lock_in h.came) c.args.cell) c.self.view_is ∙ c.requires)
    (subst (AllLack c.self.inside.under.now c.args.cell) c.deref.ensures.value c.in_default.ensures)

pub value_there-before-requires-clause-bundle : goal.value_there-before-requires-clause-bundle
value_there-before-requires-clause-bundle c =
    subst (λ bs. c.in-Some.at < length bs) (sym c.deref-2.ensures.value)
    (place_within c.self.inside.bundles.items c.in-Some.at c.in-Some.place
    (stands_has c.self.inside.under.now c.args.cell c.in-Some.at c.in-Some.place c.self.inside.bundles.items (stands c)))

pub value_there-before-requires-clause-place : goal.value_there-before-requires-clause-place
value_there-before-requires-clause-place c =
    rw c.deref-2.ensures.value (stands_has c.self.inside.under.now c.args.cell c.in-Some.at c.in-Some.place
    c.self.inside.bundles.items (stands c))

pub put_there-requires-clause-bundle : goal.put_there-requires-clause-bundle
put_there-requires-clause-bundle c =
    subst (λ bs. c.in-Some.at < length bs) (sym c.deref_mut.ensures.value)
    (place_within c.self.inside.bundles.items c.in-Some.at c.in-Some.place
    (stands_has c.self.inside.under.now c.args.cell c.in-Some.at c.in-Some.place c.self.inside.bundles.items
    (stands (goal.at.put_there-requires-clause-bundle c).After-deref-2)))

pub put_there-requires-clause-place : goal.put_there-requires-clause-place
put_there-requires-clause-place c =
    rw c.deref_mut.ensures.value
    (stands_has c.self.inside.under.now c.args.cell c.in-Some.at c.in-Some.place c.self.inside.bundles.items
    (stands (goal.at.put_there-requires-clause-place c).After-deref-2))

-- what was kept, and what was put
kept : (c : After-self-1)
    → c.keep_old.new.olds.entries ≡ with_old c.args.cell
    (value_at c.self.inside.bundles.items c.in-Some.at c.in-Some.place) c.self.inside.olds.entries
kept c =
    let fits : SFits w64 c.value_there-before.result = search rules in
    c.in_ok-keep_old.ensures.ok
    ∙ ap (λ v. with_old c.args.cell v c.self.inside.olds.entries)
    (to_z-of_z w64 c.value_there-before.result fits ∙ c.value_there-before.ensures
    ∙ ap (λ bs. value_at bs c.in-Some.at c.in-Some.place) c.deref-2.ensures.value)

put-now : (c : After-self-1) → c.put_there.new.bundles ≡ with_value c.in-Some.at c.in-Some.place c.args.value c.self.inside.bundles.items
put-now c =
    let fits : SFits w64 c.args.value = search rules in
    c.put_there.ensures ∙ (λ i. with_value c.in-Some.at c.in-Some.place (to_z-of_z w64 c.args.value fits i) (c.deref_mut.ensures.value i))

pub invariant_of-self-2 : goal.invariant_of-self-2
invariant_of-self-2 c =
    rw (with_items_is c.self.inside.bundles c.put_there.new.bundles (search rules), kept c, put-now c)
    (handy_with c.self.inside.under.now c.self.inside.over.now c.self.inside.bundles.items c.self.inside.olds.entries c.args.cell
    c.in-Some.at c.in-Some.place c.args.value c.self.invariant
    (stands (goal.at.invariant_of-self-2 c).After-deref-2))

pub returns-clause-ok : goal.returns-clause-ok
returns-clause-ok c =
    let under = c.self.inside.under.now in
    let items = with_items_is c.self.inside.bundles c.put_there.new.bundles (search rules) ∙ put-now c in
    let there = stands (goal.at.returns-clause-ok c).After-deref-2 in
    rw (← c.self.view_is)
    (λ i. record {
      under = under;
      came = ((λ j. put_back under (kept c j) (items j))
          ∙ came_same under c.self.inside.bundles.items c.self.inside.olds.entries c.args.cell c.in-Some.at
          c.in-Some.place c.args.value there) i;
      written = ((λ j. map (new_write under (items j)) (kept c j))
          ∙ written_then under c.self.inside.bundles.items c.self.inside.olds.entries c.args.cell c.in-Some.at c.in-Some.place c.args.value
          there c.self.invariant.rising) i;
    })
