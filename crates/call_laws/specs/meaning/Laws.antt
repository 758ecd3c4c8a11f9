-- Laws that join the top calls.
use Rattle.std.specs.Prelude.{◌≡◌, ◌⊎◌, ◌≤◌, ℕ, pos, List, [], ◌∷◌, ◌++◌, Some, length, take}
use Rattle.gp_base.specs.meaning.Files.{bytes_of}
use Rattle.gp_base.specs.declared.limits.TheConstants.{MOST_FILE_BYTES}
use Rattle.task_ast.specs.meaning.Tree.{Name}
use Rattle.retirement_log.specs.meaning.Rows.{Retirement}
use Rattle.gp_resume.specs.meaning.Resumed.{bytes_before}
use Rattle.command_line.specs.declared.asked.Command.TheVariants.{One, Log}
use Rattle.command_line.specs.declared.resume_words.Resumed.{Resumed}
use Rattle.call_cases.specs.meaning.Work.{Files, ToDo, Case, Go}
use Rattle.call_cases.specs.meaning.Answers.{Change, IsUntouched}
use Rattle.call_cases.specs.meaning.Case.{IsCaseOf, IsCase, text_of}
use Rattle.call_cases.specs.meaning.RunCommands as run
use Rattle.call_cases.specs.meaning.Headline.{Call, IsStop, Headline}
use Rattle.batch_calls.specs.meaning.LogCommands as log
use Rattle.resume_calls.specs.meaning.Resumption.{Resumption}
use Rattle.resume_calls.specs.meaning.ResumeCommands as resume

-- the sink took these bytes, and tells so
pub record Wrote (change : Change) (bytes : List ℕ) : Type 0 where
  pub before : List ℕ
  pub began : change.written ≡ Some before
  pub now : change.written' ≡ Some (before ++ bytes)

-- the run went to its end, or stopped after something was done to the output
abbrev pub HasBegun : Call → Type 0
HasBegun call = run.IsWhole call.status ⊎ IsStop call.status × (IsUntouched call.out → ⊥)

-- the same program is run, from the same inputs, under the same limits
pub record IsSameBatch (work other : ToDo) : Type 0 where
  pub program : work.program ≡ other.program
  pub inputs : work.inputs ≡ other.inputs
  pub limits : work.limits ≡ other.limits

-- so many bytes of what the output took are the first of the text of one thread
pub record BeginsText (count : ℕ) (text written : List ℕ) : Type 0 where
  pub within : count ≤ length written
  pub same : take count written ≡ take count text

-- A call of `log_run` over these files, whose run has begun, wrote this log. Where its first bytes stand in a file, be it all of them, and the same
-- batch is to go on from it, there is a run to go on with, and its text is that of one thread, but for as many first bytes as its rows say: so many
-- are the first of the logged call's output.
abbrev pub LoggedLaw : Type 0
LoggedLaw =
    (call : Call) (files : Files) (names : List Name) (work : ToDo) (logged : List ℕ)
    → Headline log.commands call → call.files ≡ Some files → IsCase log.asking call.words files (Go names work)
    → work.command ≡ Log → HasBegun call → Wrote call.err logged
    → (kept : ℕ) (resumed : Resumed) (files' : Files) (names' : List Name) (work' : ToDo) (case : Case Resumption)
    → IsCaseOf run.asking resumed.run files' (Go names' work') → IsSameBatch work work'
    → bytes_of files' resumed.log ≡ Some (take kept logged) → length (take kept logged) ≤ MOST_FILE_BYTES
    → IsCaseOf resume.asking resumed files' case
    → (rows : List Retirement) × (count : ℕ) × (bytes_before rows ≡ pos count)
    × (case ≡ Go (names' ++ resumed.log ∷ []) (record { work = work'; rows = rows }))
    × (take count (run.work_text One work') ++ text_of resume.commands case ≡ run.work_text One work')
    × ((written : List ℕ) → Wrote call.out written → BeginsText count (run.work_text One work') written)
