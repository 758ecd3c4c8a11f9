use Rattle.std.proofs.Common.{ap, sym, ◌∙◌, rules, SFits, w64}
use Rattle.std.specs.Prelude.{pos, unwrap_or}
use Rattle.std.proofs.lemmas.Int.{to_z-of_z}
use Rattle.std.proofs.lemmas.Option.{slice_get-get_or, slice_get_past}
use Rattle.record_store.proofs.summed.value_at.Goals as goal

pub returns-in-Some : goal.returns-in-Some
returns-in-Some c =
    let fits : SFits w64 c.in-Some.value.now = search rules in
    let it = c.in-Some.ensures.lookup in
    to_z-of_z w64 c.in-Some.value.now fits ∙ it.1
    ∙ sym (ap (λ number. unwrap_or number (pos 0)) (slice_get-get_or c.args.values.now c.args.at c.in-Some.value.now it.3.0))

pub returns-in-None : goal.returns-in-None
returns-in-None c =
    sym (ap (λ number. unwrap_or number (pos 0)) (slice_get_past c.args.values.now c.args.at c.in-None.ensures.lookup.3))
