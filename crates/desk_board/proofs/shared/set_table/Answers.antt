use Rattle.std.proofs.Common.{arith, ◌≡◌, ◌+◌, [], length, replicate, sym, ap, ◌∙◌, subst}
use Rattle.std.proofs.lemmas.List.{length-map, length-replicate}
use Rattle.atomic_table.specs.Table.{Splits, opening}
use Rattle.desk_board.specs.Views.{pass_part, clerk_part}
use Rattle.desk_board.proofs.shared.set_table.Goals as goal

pub new-requires : goal.new-requires
new-requires g c =
    let plan = c.args.plan.now in
    subst (λ w. g.P.TableRule.holds plan (opening w c.args.slots.items (g.P.TableRule.first plan))) (sym c.requires.words)
    (subst (λ s. g.P.TableRule.holds plan (opening (replicate (length plan.jobs.value.items + 1) 0) s (g.P.TableRule.first plan)))
    (sym c.requires.slots) (c.requires.opens plan c.requires.few c.requires.fits).0)

pub split_seat-office-requires : goal.split_seat-office-requires
split_seat-office-requires g c =
    let made = c.in-Ok.made in
    let ok = c.in-Ok.ensures.ok in
    let plan = c.args.plan.now in
    let wide : made.0.shared.table_id.words ≡ length plan.jobs.value.items + 1 = ok.0 ∙ (ap length c.requires.words ∙ length-replicate _ _) in (
      ok.2,
      omega (arith, wide),
      subst (λ k. Splits (g.P.TableRule.holds k) made.1.id made.1.me.0 (pass_part made.1.me.0)
          (clerk_part g.H.PassHand.none made.1.me.0)) (sym ok.5)
          ((c.requires.opens plan c.requires.few c.requires.fits).1 made.1.id made.1.me.0),
    )

pub returns-clause-made : goal.returns-clause-made
returns-clause-made g c =
    let ok = c.in-Ok.ensures.ok in
    let cut = c.split_seat-office.ensures in (
      ok.5,
      ok.0 ∙ (ap length c.requires.words ∙ length-replicate _ _),
      ok.1 ∙ (ap length c.requires.slots ∙ length-map _ _),
      cut.0 ∙ ok.2,
      cut.2 ∙ ap (λ m. (pass_part m.0, m.1)) ok.4,
      cut.3 ∙ ok.2,
      cut.4 ∙ ap (λ m. (clerk_part g.H.PassHand.none m.0, [])) ok.4,
    )
