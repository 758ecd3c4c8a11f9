use Rattle.std.proofs.Common.{ap, sym, ◌∙◌, SFits, w64, rules, subst, map}
use Rattle.std.proofs.lemmas.Int.{to_z-of_z}
use Rattle.record_store.specs.Given.{value_in}
use Rattle.subthread.specs.inner.Places.{StandsAt, AllLack}
use Rattle.subthread.proofs.Placing.{place_within}
use Rattle.subthread.proofs.Standing.{stands_has, stands_value}
use Rattle.subthread.proofs.Among.{under_now}
use Rattle.subthread.specs.inner.Hand.{Hand}
use Rattle.record_store.specs.Lent.{lock_in}
use Rattle.task_ast.specs.meaning.Under.{is_under}
use Rattle.subthread.proofs.Written.{now_is}
use Rattle.subthread.proofs.cells.CellsAtHand.value.Goals as goal
use Rattle.subthread.proofs.cells.CellsAtHand.value.Goals.{After-deref-in-Some}

stands : (c : After-deref-in-Some) → StandsAt c.self.inside.under.now c.args.cell c.in-Some.at c.in-Some.place c.deref-in-Some.result.now
stands c =
    subst (StandsAt c.self.inside.under.now c.args.cell c.in-Some.at c.in-Some.place)
    (c.deref.ensures.value ∙ sym c.deref-in-Some.ensures.value) c.in-Some.ensures

pub value_there-requires-clause-bundle : goal.value_there-requires-clause-bundle
value_there-requires-clause-bundle c =
    place_within c.deref-in-Some.result.now c.in-Some.at c.in-Some.place
    (stands_has c.self.inside.under.now c.args.cell c.in-Some.at c.in-Some.place c.deref-in-Some.result.now (stands c))

pub value_there-requires-clause-place : goal.value_there-requires-clause-place
value_there-requires-clause-place c =
    stands_has c.self.inside.under.now c.args.cell c.in-Some.at c.in-Some.place c.deref-in-Some.result.now (stands c)

pub returns : goal.returns
returns c =
    let fits : SFits w64 c.value_there.result = search rules in
    let there = (goal.at.returns c).After-deref-in-Some in
    rw (← c.self.view_is)
    (to_z-of_z w64 c.value_there.result fits ∙ c.value_there.ensures
    ∙ sym (stands_value c.self.inside.under.now c.args.cell c.in-Some.at c.in-Some.place c.deref-in-Some.result.now (stands there))
    ∙ ap (λ bundles. value_in c.self.inside.under.now bundles c.args.cell) c.deref-in-Some.ensures.value
    ∙ sym (now_is c.self.inside.under.now c.self.inside.bundles.items c.self.inside.olds.entries c.args.cell))

pub unreachable-requires : goal.unreachable-requires
unreachable-requires c =
    under_now c.self.inside.under.now c.self.inside.olds.entries c.args.cell c.self.inside.bundles.items
    (ap (λ (h : Hand). is_under h.under (map lock_in h.came) c.args.cell) c.self.view_is ∙ c.requires)
    (subst (AllLack c.self.inside.under.now c.args.cell) c.deref.ensures.value c.in-None.ensures)
