use Rattle.std.proofs.Common.{rules, ◌≡◌, ◌+◌, ◌≤◌, length, map, replicate, All, sym, ap, ◌∙◌, subst}
use Rattle.desk_board.specs.declared.view.Slot.TheVariants.{Todo}
use Rattle.desk_board.proofs.shared.lay_table.Goals as goal

pub set_table-requires-clause-few : goal.set_table-requires-clause-few
set_table-requires-clause-few g c κs within =
    let same : c.of.result.value.items ≡ c.args.jobs = ap (λ v. v.items) c.of.ensures ∙ c.into_vec-jobs.ensures in
    subst (λ l. length l ≤ 65536) (sym same) c.requires.few

pub set_table-requires-clause-fits : goal.set_table-requires-clause-fits
set_table-requires-clause-fits g c κs within =
    let same : c.of.result.value.items ≡ c.args.jobs = ap (λ v. v.items) c.of.ensures ∙ c.into_vec-jobs.ensures in
    subst (λ w. All (g.J.Job.fits w) c.of.result.value.items) (sym c.of-2.ensures)
    (subst (λ l. All (g.J.Job.fits c.args.with.now) l) (sym same) c.requires.fits)

pub set_table-requires-clause-opens : goal.set_table-requires-clause-opens
set_table-requires-clause-opens g c κs within = c.requires.opens

pub set_table-requires-clause-words : goal.set_table-requires-clause-words
set_table-requires-clause-words g c κs within =
    let count : c.len.result ≡ length c.of.result.value.items = search rules in
    c.as_slice.ensures.value ∙ (c.in-Ok.ensures.words ∙ ap (λ n. replicate (n + 1) 0) count)

pub set_table-requires-clause-slots : goal.set_table-requires-clause-slots
set_table-requires-clause-slots g c κs within = c.lay_out.ensures.slots ∙ ap (λ v. map Todo v.items) (sym c.of.ensures)

pub take_back-requires-clause-slots : goal.take_back-requires-clause-slots
take_back-requires-clause-slots g c =
    c.in-Err.ensures.refused ∙ (c.lay_out.ensures.slots ∙ ap (λ v. map Todo v.items) (sym c.of.ensures))
