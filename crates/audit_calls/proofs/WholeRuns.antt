-- The trace of a whole run is answered lawful.
use Rattle.std.proofs.Common.{◌≡◌, ◌⊎◌, inl, inr, List, [], ◌++◌, get_or, map, Result, Ok, Err, sym, subst}
use Rattle.std.specs.List.{All}
use Rattle.std.proofs.lemmas.List.Elements.{All-contains, All-contains_itself, Contains-append_left}
use Rattle.gp_base.specs.declared.fault.Fault.{Fault}
use Rattle.gp_base.specs.declared.journal.Restart.{Restart}
use Rattle.gp_base.specs.declared.journal.Journal.{Journal}
use Rattle.task_ast.specs.meaning.Plain.{Subthread}
use Rattle.one_thread.specs.PlainRuns.{shown}
use Rattle.dependence.specs.meaning.Restarts.{Dependence}
use Rattle.dependence.specs.meaning.Journal.{Complete}
use Rattle.dependence.specs.meaning.Runs.{dependence_of}
use Rattle.dependence.specs.Standing.{AreShort, KeepsClean}
use Rattle.dependence.proofs.Standing.{run-clean}
use Rattle.restart_log.specs.meaning.Trace.{trace_text}
use Rattle.gp_audit.specs.declared.line.TraceLine.{TraceLine}
use Rattle.gp_audit.specs.declared.line.TraceFault.{TraceFault}
use Rattle.gp_audit.specs.declared.line.TraceFault.TheVariants as fault
use Rattle.gp_audit.specs.declared.verdict.Verdict.{Verdict}
use Rattle.gp_audit.specs.declared.verdict.Verdict.TheVariants.{Lawful as IsLawful}
use Rattle.gp_audit.specs.LineTexts.{IsNarrowRestart, IsNarrowLine}
use Rattle.gp_audit.specs.Reading.{AnswersTrace}
use Rattle.gp_audit.specs.Steps.{dependence_by}
use Rattle.gp_audit.specs.meaning.Verdicts.{IsVerdict}
use Rattle.gp_audit.proofs.Fronts.{verdict_once}
use Rattle.gp_audit.proofs.Once.{read_once}
use Rattle.gp_audit.proofs.ToldVerdicts.{tell-lawful, told-verdict}
use Rattle.gp_audit.proofs.TraceTexts.{trace-of}
use Rattle.audit_calls.specs.TraceLaws.{IsWholeRun, IsNarrowRun}
use Rattle.audit_calls.specs.JournalLines.{lines_of}
use Rattle.audit_calls.proofs.NarrowLines.{restarts-narrow, lines-narrow}
use Rattle.audit_calls.proofs.NumberedRestarts.{lines-lawful}
use Rattle.gp_audit.proofs.Orders.{order-is}
use Rattle.audit_calls.proofs.JournalTexts.{text-is}

front-narrow : (restarts rest : List Restart) → All IsNarrowRestart (restarts ++ rest) → All IsNarrowRestart restarts
front-narrow restarts rest all k d l =
    All-contains IsNarrowRestart (restarts ++ rest) (get_or restarts k d) all
    (Contains-append_left restarts rest (get_or restarts k d) (All-contains_itself restarts k d l))

module _ (run : List Subthread) (faults : List Fault) (journal : Journal) (narrow : IsNarrowRun run faults)
    (whole : IsWholeRun run faults journal) where
  short : AreShort faults
  short k d l = (narrow.narrow k d l).delay

  clean : KeepsClean (dependence_of run) faults
  clean = run-clean run faults short

  told-narrow : All IsNarrowRestart journal.restarts
  told-narrow =
      front-narrow journal.restarts whole.first.0
      (subst (All IsNarrowRestart) whole.first.1
      (restarts-narrow (dependence_of run) faults clean narrow.subthreads narrow.few narrow.narrow))

  all-lines-narrow : All IsNarrowLine (lines_of journal)
  all-lines-narrow =
      lines-narrow (dependence_of run) faults clean narrow.subthreads narrow.few narrow.narrow journal.restarts told-narrow
      [] journal.events whole.complete.lawful

  whole-verdict : IsVerdict (dependence_by (map shown run)) faults (lines_of journal) IsLawful
  whole-verdict =
      let lines = lines-lawful (dependence_of run) faults journal.restarts journal.events whole.complete.lawful whole.first whole.counted in
      subst (λ (dependence : Dependence). IsVerdict dependence faults (lines_of journal) IsLawful) (sym (order-is run))
      (told-verdict (dependence_of run) faults (lines_of journal) IsLawful (
        tell-lawful (dependence_of run) faults (lines_of journal) lines.1,
        subst (Complete (dependence_of run) faults) (sym lines.0) whole.complete,
      ))

  pub audit-is-lawful : (read : Result (List TraceLine) TraceFault) → AnswersTrace (trace_text journal) read
      → (read ≡ Err fault.OutOfMemory)
      ⊎ ((lines : List TraceLine) × (read ≡ Ok lines)
      × ((verdict : Verdict) → IsVerdict (dependence_by (map shown run)) faults lines verdict → verdict ≡ IsLawful))
  audit-is-lawful read answers =
      elim (read_once (trace_text journal) (lines_of journal)
      (trace-of (trace_text journal) (lines_of journal) all-lines-narrow (text-is journal.restarts journal.events)) read answers) [
        | inl is ↦
            inr (
              lines_of journal,
              is,
              λ verdict is_verdict.
                  verdict_once (dependence_by (map shown run)) faults (lines_of journal) verdict IsLawful is_verdict whole-verdict,
            )
        | inr out ↦ inl out
      ]
