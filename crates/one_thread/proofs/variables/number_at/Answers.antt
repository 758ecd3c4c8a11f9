use Rattle.std.proofs.Common.{◌∙◌, refl, ap, sym, unwrap_or, pos, rules, SFits, w64}
use Rattle.std.proofs.lemmas.Int.{to_z-of_z}
use Rattle.one_thread.proofs.Looking.{at-get}
use Rattle.one_thread.proofs.variables.number_at.Goals as goal

pub returns-in-Some : goal.returns-in-Some
returns-in-Some c =
    let fits : SFits w64 c.in-Some.number.now = search rules in
    let at = c.in-Some.ensures.lookup in
    to_z-of_z w64 c.in-Some.number.now fits
    ∙ ap (λ o. unwrap_or o (pos 0)) (sym (at-get c.args.numbers.now c.args.numbers.now c.args.k c.in-Some.number.now refl at.0 at.1))
