-- What there is to be shown for a call, and the text that shows it.
use Rattle.std.specs.Prelude.{◌≡◌, ℕ, List, [], ◌∷◌, ◌++◌, Option, Some, None, unwrap_or}
use Rattle.gp_base.specs.meaning.Files.{bytes_of}
use Rattle.task_ast.specs.meaning.Tree.{Name, Program}
use Rattle.gp_audit.specs.declared.line.TraceLine.{TraceLine}
use Rattle.gp_audit.specs.declared.verdict.Verdict.TheVariants.{Unlawful}
use Rattle.gp_audit.specs.meaning.Lines.{IsTrace}
use Rattle.gp_audit.specs.meaning.Reading.{IsBrokenAt}
use Rattle.gp_audit.specs.meaning.Verdicts.{LawfulLines, IsVerdict}
use Rattle.command_line.specs.declared.asked.Command.{Command}
use Rattle.command_line.specs.declared.asked.Command.TheVariants as command
use Rattle.call_cases.specs.meaning.Work.{Files, ToDo, Case, Refused, Go}
use Rattle.call_cases.specs.meaning.InputFiles.{supplied_by, ThenLoads, ReadsFile}
use Rattle.call_cases.specs.meaning.Journals.{dependence_for}
use Rattle.call_cases.specs.meaning.Lines.{input_line}
use Rattle.run_picture.specs.meaning.Elements.{Layout}
use Rattle.run_picture.specs.meaning.Picture.{timeline_text}
use Rattle.run_views.specs.meaning.OrderText.{order_text}
use Rattle.run_views.specs.meaning.Why.{why_text}
use Rattle.view_calls.specs.declared.words.Viewed.{Viewed}

-- a run, with a position of it where one is asked for, and with the lines of its trace where there is one
pub record Sight : Type 0 where
  pub work : ToDo
  pub position : Option ℕ
  pub trace : Option (List TraceLine)

-- What comes of a trace with these bytes, where these files were read: the run with its lines, or the number of the first row that is no line, or with
-- which they are not lawful.
pub data Sees (file : Name) (names : List Name) (position : Option ℕ) (work : ToDo) (bytes : List ℕ) : Case Sight → Type 0 where
  of_lines : {lines : List TraceLine} → IsTrace bytes lines → LawfulLines (dependence_for work) work.faults lines
      → Sees file names position work bytes (Go names (record { work = work; position = position; trace = Some lines }))
  of_unlawful : {lines : List TraceLine} (row : ℕ) → IsTrace bytes lines → IsVerdict (dependence_for work) work.faults lines (Unlawful row)
      → Sees file names position work bytes (Refused 4 names (input_line file 1 row))
  of_row : {row : ℕ} → IsBrokenAt bytes row → Sees file names position work bytes (Refused 4 names (input_line file 1 row))

-- what comes of the trace that the words name, where they name one, after these files
abbrev pub WithTrace : (trace : Option Name) → Files → (position : Option ℕ) → (names : List Name) → ToDo → Case Sight → Type 0
WithTrace None files position names work case = case ≡ Go names (record { work = work; position = position; trace = None })
WithTrace (Some file) files position names work case =
    ReadsFile names file (bytes_of files file) (Sees file (names ++ file ∷ []) position work) case

-- what an accepted program and the files beside it give: those are read that `gprs` reads, and then that of the trace
abbrev pub supplies : Viewed → Program → Files → Case Sight → Type 0
supplies viewed program files = ThenLoads (supplied_by viewed.run program files) (WithTrace viewed.trace files viewed.position)

-- where pictures are laid out so
module _ (layout : Layout) where
  -- the picture of a run with its faults, and with its trace, or the order of a run
  abbrev pub text_for : Command → ToDo → (trace : Option (List TraceLine)) → List ℕ
  text_for command.Run work trace = timeline_text layout work.program work.inputs work.limits work.faults trace
  text_for command work trace = order_text work.program work.inputs work.limits

  -- that of the whole run, or why a position of it was redone, where there is such a position
  abbrev pub view_by : (position : Option ℕ) → ToDo → (trace : Option (List TraceLine)) → Option (List ℕ)
  view_by None work trace = Some (text_for work.command work trace)
  view_by (Some position) work trace = why_text work.program work.inputs work.limits work.faults position

  abbrev pub view_of : Sight → Option (List ℕ)
  view_of sight = view_by sight.position sight.work sight.trace

-- the position that is asked for, where there is nothing to be shown of it
abbrev pub absent_by : (view : Option (List ℕ)) → (position : Option ℕ) → Option ℕ
absent_by None position = position
absent_by (Some text) position = None

-- what is written, and the status of that
abbrev pub sight_text : Layout → Sight → List ℕ
sight_text layout sight = unwrap_or (view_of layout sight) []

abbrev pub status_by : (absent : Option ℕ) → ℕ
status_by None = 0
status_by (Some position) = 5

abbrev pub sight_status : Layout → Sight → ℕ
sight_status layout sight = status_by (absent_by (view_of layout sight) sight.position)
