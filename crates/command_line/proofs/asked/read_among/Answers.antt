use Rattle.std.proofs.Common.{◌≡◌, ◌∙◌, ap, sym, Option, Some, string_bytes}
use Rattle.command_line.specs.meaning.Words.{named_verb}
use Rattle.command_line.specs.declared.asked.Verb.{Verb}
use Rattle.command_line.proofs.AskedFacts.{asked_first}
use Rattle.command_line.proofs.asked.read_among.Goals as goal

pub returns-clause-asked : goal.returns-clause-asked
returns-clause-asked c =
    let named : named_verb (string_bytes c.word-item.result) ≡ Some c.in-Some.verb =
    ap named_verb (sym c.as_str.ensures.value) ∙ sym c.named_verb.ensures ∙ c.in-Some.is in
    asked_first c.args.waits c.args.words.now c.word-item.result c.in-Some.verb c.in-len1-up.len_at_least c.word-item.is named c.asked_of.result
    c.asked_of.ensures.asked
