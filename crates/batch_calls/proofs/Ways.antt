-- What is known of a command whose run over a journal writes this, and of what is carried out by it.
use Rattle.std.proofs.Common.{◌≡◌, ◌∙◌, ℕ, true, false, if◌then◌else◌, [], length, inl, inr, sym, ap, subst}
use Rattle.gp_base.specs.declared.journal.Journal.{Journal}
use Rattle.restart_log.specs.meaning.Trace.{trace_text}
use Rattle.command_line.specs.declared.asked.Asked.{Asked}
use Rattle.command_line.specs.declared.asked.Command.{Command}
use Rattle.command_line.specs.declared.asked.Command.TheVariants as command
use Rattle.command_line.specs.declared.asked.Soak.{Soak}
use Rattle.call_cases.specs.meaning.Answers.{Change}
use Rattle.call_cases.specs.meaning.PlainText.{plain_ran, restarts_in}
use Rattle.call_cases.specs.meaning.Texts.{run_text, run_soak}
use Rattle.call_cases.specs.meaning.Work.{ToDo, is_journalled, runs}
use Rattle.batch_calls.specs.declared.basis.Output.{Output}
use Rattle.batch_calls.specs.declared.basis.Output.TheVariants.{Lines, Summary, LinesAndLog}
use Rattle.batch_calls.specs.inner.Logged.{LogsFor}
use Rattle.batch_calls.specs.inner.Planned.{Carries, EndsBy}
use Rattle.batch_calls.specs.inner.Ran.{EndsFor, Journalled, WritesLines}
use Rattle.batch_calls.specs.inner.Ways.{Writes}

-- it runs its program, over a journal
is_run : (asked : Command) (output : Output) → Writes asked output → is_journalled asked ≡ true
is_run asked Lines (inl is) = ap is_journalled is
is_run asked Lines (inr is) = ap is_journalled is.1
is_run asked (Summary soak) is = ap is_journalled is
is_run asked LinesAndLog is = ap is_journalled is

pub is_begun : (asked : Command) (output : Output) → Writes asked output → runs asked ≡ true
is_begun asked Lines (inl is) = ap runs is
is_begun asked Lines (inr is) = ap runs is.1
is_begun asked (Summary soak) is = ap runs is
is_begun asked LinesAndLog is = ap runs is

-- it writes its lines
pub writes_lines : (asked : Command) → Writes asked Lines → WritesLines asked
writes_lines asked (inl is) = subst WritesLines (sym is) tt
writes_lines asked (inr is) = subst WritesLines (sym is.1) tt

-- what ended so was carried out
module _ (asked : Asked) (work : ToDo) (same : work.command ≡ asked.command) (out err : Change) (status : ℕ) (journal : Journal) where
  abbrev Ends : Command → Type 0
  Ends c = EndsBy c asked work out err status journal

  carried : (output : Output) → Writes asked.command output → Ends asked.command → Journalled work status journal out
      → Carries asked work out err status journal
  carried output writes ends made = record {
    ends = subst Ends (sym same) ends;
    unjournalled = λ not. absurd (let both : true ≡ false = sym (is_run asked.command output writes) ∙ not in cc);
    run = λ is. made;
  }

  pub lines_carried : Writes asked.command Lines
      → EndsFor work (run_text (plain_ran work) (restarts_in work) (length work.faults)) (if asked.trace then trace_text journal else [])
      out err status journal → Carries asked work out err status journal
  lines_carried writes ended = carried Lines writes (by writes) ended.journalled
    where
      by : Writes asked.command Lines → Ends asked.command
      by (inl is) = subst Ends (sym is) ended.ends
      by (inr is) = subst Ends (sym is.1) ended.ends

  pub summary_carried : (soak : Soak) → asked.command ≡ command.Soak soak
      → EndsFor work (run_soak soak (plain_ran work) (restarts_in work) (length work.faults)) (if asked.trace then trace_text journal else [])
      out err status journal → Carries asked work out err status journal
  summary_carried soak is ended = carried (Summary soak) is (subst Ends (sym is) ended.ends) ended.journalled

  pub log_carried : asked.command ≡ command.Log
      → LogsFor work (run_text (plain_ran work) (restarts_in work) (length work.faults)) out err status journal
      → Carries asked work out err status journal
  log_carried is ended = carried LinesAndLog is (subst Ends (sym is) ended.ends) ended.journalled
