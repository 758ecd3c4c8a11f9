use Rattle.std.proofs.Common.{sym, subst}
use Rattle.std.specs.Prelude.{OnOk}
use Rattle.task_parser.specs.declared.fault.ParseFault.{ParseFault}
use Rattle.refusal_texts.specs.Refusals.{IsParseRefusal}
use Rattle.refusal_texts.proofs.parsing.push_parse_refusal.Goals as goal

pub returns-in-Unexpected : goal.returns-in-Unexpected
returns-in-Unexpected c =
    subst (λ (f : ParseFault). OnOk c.push_unexpected.result (IsParseRefusal c.args.name.now c.args.program.now c.args.tokens.now f
    c.args.text.now.items c.push_unexpected.new.text.items)) (sym c.in-Unexpected.is) c.push_unexpected.ensures

pub returns-in-TooDeep : goal.returns-in-TooDeep
returns-in-TooDeep c =
    subst (λ (f : ParseFault). OnOk c.push_deep.result (IsParseRefusal c.args.name.now c.args.program.now c.args.tokens.now f
    c.args.text.now.items c.push_deep.new.text.items)) (sym c.in-TooDeep.is) c.push_deep.ensures
