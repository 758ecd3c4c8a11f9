use Rattle.std.proofs.Common.{rules, ◌≡◌, [], inl, inr, subst}
use Rattle.command_line.specs.meaning.Words.{texts}
use Rattle.call_cases.specs.declared.lines.Tool.TheVariants.{Gprs}
use Rattle.call_cases.specs.meaning.Work.{Files}
use Rattle.call_cases.specs.meaning.Case.{IsCase, text_of, due_of}
use Rattle.call_cases.specs.meaning.RunCommands.{commands, asking}
use Rattle.memory_batch.proofs.Sinks.{taken_whole}
use Rattle.memory_batch.proofs.run.run_over.Goals as goal

pub returns : goal.returns
returns g c =
    let words = texts c.args.words.now in
    let head = c.gprs_run-outcome.ensures.headline in
    let same : c.new-shelf.result.files ≡ c.args.files = search rules in
    record {
      whole = λ whole.
          let told = head.told (inl whole) in
          let text : c.gprs_run-outcome.new.out.written.items ≡ text_of commands told.0 =
          taken_whole _ _ _ c.new-out.ensures.written ((head.by_case told.0 told.1).text whole) in
          record { case = told.0; is_case = subst (λ (fs : Files). IsCase asking words fs told.0) same told.1; ends = told.2; writes = search rules };
      refused = λ refused.
          let told = head.told (inr refused) in
          let line : c.gprs_run-outcome.new.err.written.items ≡ due_of Gprs told.0 [] =
          taken_whole _ _ _ c.new-err.ensures.written ((head.by_case told.0 told.1).line refused) in
          record { case = told.0; is_case = subst (λ (fs : Files). IsCase asking words fs told.0) same told.1; ends = told.2; tells = search rules };
    }
