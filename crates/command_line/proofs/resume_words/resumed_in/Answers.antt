use Rattle.std.proofs.Common.{◌∙◌, ap, sym, false, Bor, List, ℕ}
use Rattle.std.specs.Prelude.{option_map}
use Rattle.clap.specs.Words.{found_of, rows_of}
use Rattle.command_line.specs.meaning.Words.{asked_in, both}
use Rattle.command_line.specs.declared.asked.Asked.{Asked}
use Rattle.command_line.specs.declared.asked.Verb.TheVariants.{One}
use Rattle.command_line.specs.declared.resume_words.Resumed.{Resumed}
use Rattle.command_line.proofs.AskedFacts.{none_alone}
use Rattle.command_line.proofs.resume_words.resumed_in.Goals as goal

pub returns-in_default-clause-resumed : goal.returns-in_default-clause-resumed
returns-in_default-clause-resumed c =
    let run = asked_in false One (rows_of (found_of c.args.matches.now)) in
    let made : Asked → List ℕ → Resumed = λ run log. record { run = run; log = log } in
    none_alone made run ∙ ap (both made run) (ap (option_map (λ (text : Bor (List ℕ)). text.now)) (sym c.in_default.is) ∙ c.found_text.ensures)
