use Rattle.std.proofs.Common.{◌≡◌, ◌+◌, ◌∷◌, ℕ, true, drop, ap, sym, ◌∙◌, subst, SFits, w64, rules, is_some}
use Rattle.std.specs.Int.{int_bit_xor}
use Rattle.std.proofs.lemmas.Int.{to_z-of_z}
use Rattle.std.proofs.lemmas.Bool.{and_parts}
use Rattle.std.specs.Prelude.{ℤ}
use Rattle.std.specs.Ordering.{nat_cmp}
use Rattle.std.specs.FinMap.{is_sorted, find}
use Rattle.std.specs.FinMap.Entries.{below_all}
use Rattle.record_store.proofs.Homing.{drop_next, drop_none}
use Rattle.subthread.specs.inner.Places.{StandsAt, value_at, with_value}
use Rattle.subthread.proofs.Placing.{place_within}
use Rattle.subthread.proofs.Standing.{stands_has}
use Rattle.subthread.proofs.Struck.{then, then_next, handy_struck, came_struck, found_at, all_struck, turned}
use Rattle.subthread.proofs.cells.strike.Goals as goal

pub unreachable-requires : goal.unreachable-requires
unreachable-requires c =
    c.striking.invariant.handy.within c.cell.inside.0
    (subst (λ n. is_some (find nat_cmp n c.args.olds.now) ≡ true) (sym c.cell.view_is)
    (found_at c.args.olds.now c.striking.at c.index-olds-at.result c.requires.rising c.striking-test.true)) c.in_default.ensures

pub turn_there-requires-clause-bundle : goal.turn_there-requires-clause-bundle
turn_there-requires-clause-bundle c =
    place_within c.striking.bundles c.in-Some.bundle c.in-Some.place
    (stands_has c.args.under.now c.cell.inside.0 c.in-Some.bundle c.in-Some.place c.striking.bundles c.in-Some.ensures)

pub turn_there-requires-clause-place : goal.turn_there-requires-clause-place
turn_there-requires-clause-place c =
    stands_has c.args.under.now c.cell.inside.0 c.in-Some.bundle c.in-Some.place c.striking.bundles c.in-Some.ensures

pub striking-preserved : goal.striking-preserved
striking-preserved c =
    let under = c.args.under.now in
    let olds = c.args.olds.now in
    let fits : SFits w64 c.args.mask = search rules in
    let cell : c.cell.inside.0 ≡ c.index-olds-at.result.0 = c.cell.view_is ∙ ap (λ (w : ℕ × ℤ). w.0) (sym c.index-olds-at.is) in
    let stands = subst (λ n. StandsAt under n c.in-Some.bundle c.in-Some.place c.striking.bundles) cell c.in-Some.ensures in
    let next =
    drop_next olds c.striking.at c.index-olds-at.result c.striking-test.true
    ∙ ap (λ w. w ∷ drop (c.striking.at + 1) olds) (sym c.index-olds-at.is) in
    let rises : is_sorted nat_cmp (c.index-olds-at.result ∷ drop (c.striking.at + 1) olds) ≡ true =
    subst (λ ws. is_sorted nat_cmp ws ≡ true) next c.striking.invariant.rising in
    let turn =
    c.turn_there.ensures ∙ ap (λ m. with_value c.in-Some.bundle c.in-Some.place
    (int_bit_xor w64 (value_at c.striking.bundles c.in-Some.bundle c.in-Some.place) m) c.striking.bundles)
    (to_z-of_z w64 c.args.mask fits) in
    rw (turn, to_z-of_z w64 c.args.mask fits)
    (record {
      handy =
          handy_struck under c.args.over.now c.striking.bundles olds c.in-Some.bundle c.in-Some.place
          (turned c.args.mask (value_at c.striking.bundles c.in-Some.bundle c.in-Some.place)) c.striking.invariant.handy;
      came =
          came_struck under c.striking.bundles olds c.index-olds-at.result.0 c.striking.at c.in-Some.bundle
          c.in-Some.place c.index-olds-at.result
          (turned c.args.mask (value_at c.striking.bundles c.in-Some.bundle c.in-Some.place)) stands c.requires.rising c.striking-test.true
          (ap (λ (w : ℕ × ℤ). w.0) c.index-olds-at.is)
          ∙ c.striking.invariant.came;
      rising =
          (and_parts (below_all nat_cmp c.index-olds-at.result.0 (drop (c.striking.at + 1) olds))
          (is_sorted nat_cmp (drop (c.striking.at + 1) olds)) rises).1;
      values = λ d.
          then_next under c.args.mask c.striking.bundles c.index-olds-at.result
          (drop (c.striking.at + 1) olds) c.in-Some.bundle c.in-Some.place stands rises d
          ∙ ap (λ ws. then under c.args.mask ws c.striking.bundles d) (sym next)
          ∙ (rw (to_z-of_z w64 c.args.mask fits) at c.striking.invariant.values) d;
    })

pub returns-clause-written : goal.returns-clause-written
returns-clause-written c =
    let fits : SFits w64 c.args.mask = search rules in
    all_struck c.args.under.now c.args.mask c.args.bundles.now c.striking.bundles c.args.olds.now c.requires.rising
    (λ d. ap (λ rest. then c.args.under.now c.args.mask rest c.striking.bundles d)
    (sym (drop_none c.args.olds.now c.striking.at c.striking-test.false))
    ∙ (rw (to_z-of_z w64 c.args.mask fits) at c.striking.invariant.values) d)
