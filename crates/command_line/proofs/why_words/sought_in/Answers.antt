use Rattle.std.proofs.Common.{◌∙◌, ap, sym, false, ℕ}
use Rattle.clap.specs.Words.{found_of, rows_of}
use Rattle.command_line.specs.meaning.Words.{asked_in, both}
use Rattle.command_line.specs.declared.asked.Asked.{Asked}
use Rattle.command_line.specs.declared.asked.Verb.TheVariants.{Run}
use Rattle.command_line.specs.declared.why_words.Sought.{Sought}
use Rattle.command_line.proofs.AskedFacts.{none_alone}
use Rattle.command_line.proofs.why_words.sought_in.Goals as goal

pub returns-in_default-clause-sought : goal.returns-in_default-clause-sought
returns-in_default-clause-sought c =
    let run = asked_in false Run (rows_of (found_of c.args.matches.now)) in
    let made : Asked → ℕ → Sought = λ run position. record { run = run; position = position } in
    none_alone made run ∙ ap (both made run) (sym c.in_default.is ∙ c.position_in.ensures)
