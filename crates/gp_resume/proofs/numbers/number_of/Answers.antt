use Rattle.std.proofs.Common.{sym, ap, ◌∙◌, w64, to_z, of_z}
use Rattle.std.specs.Fmt.{signed_decimal}
use Rattle.std.proofs.lemmas.Bool.{both_ways}
use Rattle.std.proofs.lemmas.Slice.Eq.{bytes_eq-Decides}
use Rattle.gp_resume.proofs.Numerals.{is-text, kept, none-parsed, same-number}
use Rattle.gp_resume.proofs.numbers.number_of.Goals as goal

pub returns-in-Err : goal.returns-in-Err
returns-in-Err c n l e = c.in-Err.ensures.cases.0 (is-text n c.args.bytes.now l e)

pub returns-in_err-number : goal.returns-in_err-number
returns-in_err-number c = rw c.from_residual.ensures
    (λ n l e. none-parsed n c.args.bytes.now c.parse.result l e (rw c.in-Ok.ensures.cases.0 at c.parse.ensures.value.0)
    (sym c.ok.ensures.value ∙ c.in_err-number.was))

pub returns-else-eq : goal.returns-else-eq
returns-else-eq c n l e =
    let same =
    same-number n c.in_ok-number.number c.args.bytes.now c.parse.result l e (rw c.in-Ok.ensures.cases.0 at c.parse.ensures.value.0)
    (sym c.ok.ensures.value ∙ c.in_ok-number.was) in
    let text = c.format.ensures.text ∙ ap signed_decimal (ap (λ z. to_z w64 (of_z w64 z)) (sym same) ∙ kept n l) in
    both_ways c.eq.result c.if-eq.false
    (c.eq.ensures ∙ (bytes_eq-Decides c.as_bytes.result.now c.args.bytes.now).1 (c.as_bytes.ensures.value ∙ (text ∙ sym e)))
