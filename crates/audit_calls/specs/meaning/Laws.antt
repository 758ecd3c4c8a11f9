-- A law of audits.
use Rattle.std.specs.Prelude.{◌≡◌, ◌≤◌, Bool, true, List, Some, length, codes}
use Rattle.gp_base.specs.meaning.Files.{bytes_of}
use Rattle.gp_base.specs.declared.limits.TheConstants.{MOST_FILE_BYTES}
use Rattle.task_ast.specs.meaning.Tree.{Name}
use Rattle.restart_log.specs.meaning.Trace.{trace_text}
use Rattle.gp_audit.specs.declared.verdict.Verdict.{Verdict}
use Rattle.command_line.specs.declared.audit_words.Audited.{Audited}
use Rattle.call_cases.specs.meaning.Work.{Files, ToDo, is_journalled, Case, Go}
use Rattle.call_cases.specs.meaning.Case.{IsCaseOf, IsCase, status_of, text_of}
use Rattle.call_cases.specs.meaning.RunCommands as run
use Rattle.call_cases.specs.meaning.Headline.{Call, Headline}
use Rattle.audit_calls.specs.meaning.AuditCommands.{asking, commands}

-- the same program is run, from the same inputs, with the same faults, under the same limits
pub record IsSameRun (work other : ToDo) : Type 0 where
  pub program : work.program ≡ other.program
  pub inputs : work.inputs ≡ other.inputs
  pub faults : work.faults ≡ other.faults
  pub limits : work.limits ≡ other.limits

-- A call of `gprs_run`, or of `gprs_run_pipe`, which waits, over these files, whose run ended at 0, 5 or 6, left a journal. Where the trace
-- of that journal stands in a file, an audit of that file as the trace of the same run comes to the status 0 and the text `lawful`.
abbrev pub TraceLaw : Type 0
TraceLaw =
    (waits : Bool) (call : Call) (files : Files) (names : List Name) (work : ToDo)
    → Headline (run.commands_among waits) call → call.files ≡ Some files
    → IsCase (run.asking_among waits) call.words files (Go names work)
    → is_journalled work.command ≡ true → run.IsWhole call.status
    → length (trace_text call.journal) ≤ MOST_FILE_BYTES
    → (audited : Audited) (files' : Files) (names' : List Name) (work' : ToDo) (case : Case Verdict)
    → IsCaseOf run.asking audited.run files' (Go names' work') → IsSameRun work work'
    → bytes_of files' audited.trace ≡ Some (trace_text call.journal) → IsCaseOf asking audited files' case
    → (status_of commands case ≡ 0) × (text_of commands case ≡ codes "lawful\n")
