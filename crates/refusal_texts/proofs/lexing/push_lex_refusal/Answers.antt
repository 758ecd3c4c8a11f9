use Rattle.std.proofs.Common.{sym, subst}
use Rattle.std.specs.Prelude.{OnOk}
use Rattle.task_parser.specs.declared.fault.LexFault.{LexFault}
use Rattle.refusal_texts.specs.Refusals.{IsLexRefusal}
use Rattle.refusal_texts.proofs.lexing.push_lex_refusal.Goals as goal

pub returns-in-BadByte : goal.returns-in-BadByte
returns-in-BadByte c =
    subst (λ (f : LexFault). OnOk c.push_bad_byte.result (IsLexRefusal c.args.name.now c.args.program.now f c.args.text.now.items
    c.push_bad_byte.new.text.items)) (sym c.in-BadByte.is) c.push_bad_byte.ensures

pub returns-in-NumberTooBig : goal.returns-in-NumberTooBig
returns-in-NumberTooBig c =
    subst (λ (f : LexFault). OnOk c.push_big_number.result (IsLexRefusal c.args.name.now c.args.program.now f c.args.text.now.items
    c.push_big_number.new.text.items)) (sym c.in-NumberTooBig.is) c.push_big_number.ensures
