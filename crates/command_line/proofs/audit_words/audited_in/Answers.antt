use Rattle.std.proofs.Common.{◌∙◌, ap, sym, false, Bor, List, ℕ}
use Rattle.std.specs.Prelude.{option_map}
use Rattle.clap.specs.Words.{found_of, rows_of}
use Rattle.command_line.specs.meaning.Words.{asked_in, both}
use Rattle.command_line.specs.declared.asked.Asked.{Asked}
use Rattle.command_line.specs.declared.asked.Verb.TheVariants.{Run}
use Rattle.command_line.specs.declared.audit_words.Audited.{Audited}
use Rattle.command_line.proofs.AskedFacts.{none_alone}
use Rattle.command_line.proofs.audit_words.audited_in.Goals as goal

pub returns-in_default-clause-audited : goal.returns-in_default-clause-audited
returns-in_default-clause-audited c =
    let run = asked_in false Run (rows_of (found_of c.args.matches.now)) in
    let made : Asked → List ℕ → Audited = λ run trace. record { run = run; trace = trace } in
    none_alone made run ∙ ap (both made run) (ap (option_map (λ (text : Bor (List ℕ)). text.now)) (sym c.in_default.is) ∙ c.found_text.ensures)
