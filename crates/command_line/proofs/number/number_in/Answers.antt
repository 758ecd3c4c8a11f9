use Rattle.std.proofs.Common.{◌≡◌, ◌≢◌, ◌∙◌, sym, arith, refl, get_or, true, nat_le}
use Rattle.std.proofs.lemmas.Bool.Decides.{nat_tests}
use Rattle.command_line.proofs.ParseFacts.{narrowed, no_number, reads}
use Rattle.command_line.proofs.number.number_in.Goals as goal

pub returns-in_err-number-clause-value : goal.returns-in_err-number-clause-value
returns-in_err-number-clause-value c =
    let plain : get_or c.args.text.now 0 0 ≢ 43 = grind (arith, nat_tests) in
    let read = c.ok.ensures.value ∙ reads c.args.text.now c.parse.result plain c.parse.ensures.value.0 in
    c.from_residual.ensures ∙ sym (no_number c.args.low c.args.high c.args.text.now (omega arith) (sym read ∙ c.in_err-number.was))

pub returns-then-number-high-clause-value : goal.returns-then-number-high-clause-value
returns-then-number-high-clause-value c =
    let plain : get_or c.args.text.now 0 0 ≢ 43 = grind (arith, nat_tests) in
    let read = c.ok.ensures.value ∙ reads c.args.text.now c.parse.result plain c.parse.ensures.value.0 in
    let least : nat_le c.args.low c.in_ok-number.number ≡ true = grind (arith, nat_tests) in
    let most : nat_le c.in_ok-number.number c.args.high ≡ true = grind (arith, nat_tests) in
    rw (narrowed c.args.low c.args.high c.in_ok-number.number c.args.text.now (sym read ∙ c.in_ok-number.was), least, most) refl
