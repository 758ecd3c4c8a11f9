use Rattle.std.proofs.Common.{ap, sym, ◌∙◌, SFits, w64, rules, unwrap_or}
use Rattle.std.specs.Prelude.{pos, slice_get}
use Rattle.std.proofs.lemmas.Int.{to_z-of_z}
use Rattle.record_store.specs.declared.given.Bundle.{Bundle}
use Rattle.subthread.proofs.Placing.{value_is}
use Rattle.subthread.proofs.cells.value_there.Goals as goal

pub returns-in-Some : goal.returns-in-Some
returns-in-Some c =
    let fits : SFits w64 c.in-Some.value.now = search rules in
    to_z-of_z w64 c.in-Some.value.now fits
    ∙ ap (λ o. unwrap_or o (pos 0)) c.in-Some.ensures
    ∙ ap (λ (b : Bundle). unwrap_or (slice_get b.cells c.args.place) (pos 0)) (sym c.index-bundles-at.is)
    ∙ value_is c.args.bundles.now c.args.at c.args.place c.index-bundles-at.result c.requires.place c.index-bundles-at.is

pub returns-in-None : goal.returns-in-None
returns-in-None c =
    ap (λ o. unwrap_or o (pos 0)) c.in-None.ensures
    ∙ ap (λ (b : Bundle). unwrap_or (slice_get b.cells c.args.place) (pos 0)) (sym c.index-bundles-at.is)
    ∙ value_is c.args.bundles.now c.args.at c.args.place c.index-bundles-at.result c.requires.place c.index-bundles-at.is
