-- The trace of a run that ended is judged lawful.
use Rattle.std.proofs.Common.{◌≡◌, inl, inr, ℕ, Bool, true, List, [], ◌∷◌, ◌++◌, refl, sym, ap, subst, ◌∙◌}
use Rattle.std.specs.declared.option.Option.TheVariants.{Some}
use Rattle.std.specs.declared.result.Result.{Result}
use Rattle.std.specs.declared.result.Result.TheVariants.{Ok}
use Rattle.gp_base.specs.meaning.Files.{bytes_of}
use Rattle.task_ast.specs.meaning.Tree.{Name}
use Rattle.task_ast.specs.meaning.Plain.{Subthread}
use Rattle.task_ast.specs.meaning.Run.{plain_order}
use Rattle.dependence.specs.meaning.Restarts.{Dependence}
use Rattle.dependence.specs.meaning.Restarts.{restarts}
use Rattle.dependence.specs.meaning.Journal.{Complete}
use Rattle.dependence.specs.meaning.Runs.{dependence_of, restarts_of}
use Rattle.restart_log.specs.meaning.Trace.{trace_text}
use Rattle.gp_audit.specs.declared.line.TraceLine.{TraceLine}
use Rattle.gp_audit.specs.declared.verdict.Verdict.{Verdict}
use Rattle.gp_audit.specs.declared.verdict.Verdict.TheVariants.{Lawful}
use Rattle.gp_audit.specs.meaning.Answer.{verdict_text, verdict_status}
use Rattle.gp_audit.specs.meaning.Verdicts.{IsVerdict}
use Rattle.audit_calls.specs.TraceLaws.{IsWholeRun}
use Rattle.audit_calls.proofs.NarrowRuns.{narrow_run}
use Rattle.gp_audit.proofs.Orders.{order-is}
use Rattle.audit_calls.proofs.WholeRuns.{audit-is-lawful}
use Rattle.command_line.specs.declared.asked.Command.{Command}
use Rattle.command_line.specs.declared.asked.Command.TheVariants as command
use Rattle.call_cases.specs.meaning.Work.{Files, ToDo, is_journalled, Go}
use Rattle.call_cases.specs.meaning.PlainText.{restarts_in}
use Rattle.call_cases.specs.meaning.Recovering.{recovering_by}
use Rattle.call_cases.specs.meaning.Journals.{run_of, dependence_for, IsJournalOf, IsCompleteOf}
use Rattle.call_cases.specs.meaning.Case.{IsCase, ForCase, status_of, text_of}
use Rattle.call_cases.specs.meaning.RunCommands as run
use Rattle.call_cases.specs.meaning.Headline.{Call, MeetsCase, Headline}
use Rattle.call_cases.proofs.OneCase.{one_case_of}
use Rattle.gp_audit.specs.meaning.Lines.{IsTrace}
use Rattle.audit_calls.specs.meaning.AuditCommands.{asking, commands}
use Rattle.audit_calls.specs.meaning.Laws.{IsSameRun, TraceLaw}
use Rattle.audit_calls.specs.inner.Trials.{Judge, tried_with, AnswersLines}
use Rattle.command_line.proofs.RestartsAlone.{RestartsAlone}
use Rattle.call_cases.proofs.AskedCases.{restarts_alone}
use Rattle.audit_calls.proofs.Readings.{Reads, told, told_reads, told_lines, told_something, lines_told}
use Rattle.audit_calls.proofs.SomeJudge.{some_reading, some_judge}
use Rattle.audit_calls.proofs.TrialCases.{lines_case, supplies_once}

-- a command that restarts alone recovers by restarts
alone_recovering : (run : List Subthread) (c : Command) → RestartsAlone c → recovering_by c run ≡ dependence_of run
alone_recovering run command.Run alone = refl
alone_recovering run command.One alone = refl
alone_recovering run command.Check alone = refl
alone_recovering run (command.Soak batch) alone = refl
alone_recovering run (command.Ckpt every) alone = absurd alone
alone_recovering run command.Log alone = refl

alone_first : (work : ToDo) → RestartsAlone work.command → restarts_of (run_of work) work.faults ≡ restarts_in work
unfolding run_of restarts_in
alone_first work alone = ap (λ d. restarts d work.faults) (sym (alone_recovering (run_of work) work.command alone))

-- what a headline says of the journal of a run that ended
module _ (waits : Bool) (call : Call) (files : Files) (names : List Name) (work : ToDo) (headline : Headline (run.commands_among waits) call)
    (known : call.files ≡ Some files)
    (is : IsCase (run.asking_among waits) call.words files (Go names work)) (runs : is_journalled work.command ≡ true) where
  meets : MeetsCase (run.commands_among waits) call (Go names work)
  meets =
      subst (λ told. ForCase (run.asking_among waits) call.words told (MeetsCase (run.commands_among waits) call)) known
      headline.by_case (Go names work) is

  journal_of : IsJournalOf work call.journal
  journal_of = meets.lawful runs

  alone : RestartsAlone work.command
  alone = restarts_alone waits call.words files names work is

  complete_of : run.IsWhole call.status → IsCompleteOf work call.journal
  complete_of whole = meets.complete whole runs

  whole_run : run.IsWhole call.status → IsWholeRun (run_of work) work.faults call.journal
  whole_run whole = record {
    complete = subst (λ d. Complete d work.faults call.journal.events) (alone_recovering (run_of work) work.command alone) (complete_of whole);
    first = (journal_of.first.0, alone_first work alone ∙ journal_of.first.1);
    counted = journal_of.counted;
  }

  -- what is read in its trace, and how these lines are judged
  judged : run.IsWhole call.status
      → (lines : List TraceLine) × IsTrace (trace_text call.journal) lines
      × ((verdict : Verdict) → IsVerdict (dependence_for work) work.faults lines verdict → verdict ≡ Lawful)
  unfolding dependence_for
  judged whole =
      elim (audit-is-lawful (run_of work) work.faults call.journal (narrow_run waits call.words files names work is) (whole_run whole) (told read)
      (told_reads text read (some_reading text).1)) [
        | inl out ↦ absurd (told_something read out)
        | inr found ↦ (
          found.0,
          subst (Reads text) (told_lines read found.0 found.1) (some_reading text).1,
          λ verdict is_verdict. found.2 verdict (subst (λ (dependence : Dependence). IsVerdict dependence work.faults found.0 verdict)
              (sym (order-is (run_of work))) is_verdict),
        )
      ]
    where
      text : List ℕ
      text = trace_text call.journal

      read : Result (List TraceLine) ℕ
      read = (some_reading (trace_text call.journal)).0

-- what the same run says of dependence
same_dependence : (work other : ToDo) → IsSameRun work other → dependence_for work ≡ dependence_for other
unfolding run_of dependence_for
same_dependence work other same =
    let programs = same.program in
    let inputs = same.inputs in
    let limits = same.limits in
    λ i. dependence_of (plain_order (programs i) (inputs i) (limits i))

same_verdict : (judge : Judge) (work other : ToDo) (lines : List TraceLine) → IsSameRun work other
    → ((verdict : Verdict) → IsVerdict (dependence_for work) work.faults lines verdict → verdict ≡ Lawful)
    → tried_with judge other lines ≡ Lawful
same_verdict judge work other lines same lawful =
    let verdict = judge.verdict_of (dependence_for other) other.faults lines in
    let faults =
    subst (λ fs. IsVerdict (dependence_for other) fs lines verdict) (sym same.faults)
    (judge.judges (dependence_for other) other.faults lines) in
    lawful verdict (subst (λ (dependence : Dependence). IsVerdict dependence work.faults lines verdict)
    (sym (same_dependence work other same)) faults)

pub trace_law : TraceLaw
trace_law waits call files names work headline known is runs whole within audited files' names' work' case is' same holds is_case =
    let text = trace_text call.journal in
    let found = judged waits call files names work headline known is runs whole in
    let answers : AnswersLines some_judge names' audited.trace work' (bytes_of files' audited.trace) (Ok found.0) =
    subst (λ bytes. AnswersLines some_judge names' audited.trace work' bytes (Ok found.0)) (sym holds)
    (lines_told some_judge names' audited.trace work' text found.0 within found.1) in
    let one =
    one_case_of asking supplies_once audited files' (Go (names' ++ audited.trace ∷ []) (tried_with some_judge work' found.0)) case
    (lines_case audited files' some_judge names' work' found.0 is' answers) is_case in
    let verdict = same_verdict some_judge work work' found.0 same found.2 in (
      sym (ap (status_of commands) one) ∙ ap verdict_status verdict,
      sym (ap (text_of commands) one)
          ∙ ap verdict_text verdict,
    )
