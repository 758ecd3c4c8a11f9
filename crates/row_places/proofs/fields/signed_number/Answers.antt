use Rattle.std.proofs.Common.{◌≢◌, ◌∙◌, sym, arith, get_or}
use Rattle.std.proofs.lemmas.Bool.Decides.{nat_tests}
use Rattle.batch_files.proofs.ParseFacts.{not_text, signed_reads}
use Rattle.row_places.proofs.fields.signed_number.Goals as goal

pub returns-in-Ok : goal.returns-in-Ok
returns-in-Ok c =
    let plain : get_or c.args.text.now 0 0 ≢ 43 = grind (arith, nat_tests) in
    let same = c.in-Ok.ensures.cases.0 in
    c.ok.ensures.value ∙ signed_reads c.args.text.now c.parse.result plain (rw same at c.parse.ensures.value.0)

pub returns-in-Err : goal.returns-in-Err
returns-in-Err c = sym (not_text c.args.text.now c.in-Err.ensures.cases.0)
