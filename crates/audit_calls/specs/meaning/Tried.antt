-- What an audit comes to by the files of a call: the verdict on the lines of a trace, by the run that is said to have been.
use Rattle.std.specs.Prelude.{ℕ, List, [], ◌∷◌, ◌++◌}
use Rattle.gp_base.specs.meaning.Files.{bytes_of}
use Rattle.task_ast.specs.meaning.Tree.{Name, Program}
use Rattle.gp_audit.specs.declared.line.TraceLine.{TraceLine}
use Rattle.gp_audit.specs.declared.verdict.Verdict.{Verdict}
use Rattle.gp_audit.specs.meaning.Lines.{IsTrace}
use Rattle.gp_audit.specs.meaning.Reading.{IsBrokenAt}
use Rattle.gp_audit.specs.meaning.Verdicts.{IsVerdict}
use Rattle.command_line.specs.declared.audit_words.Audited.{Audited}
use Rattle.call_cases.specs.meaning.Work.{Files, ToDo, Case, Refused, Go}
use Rattle.call_cases.specs.meaning.InputFiles.{supplied_by, ThenLoads, ReadsFile}
use Rattle.call_cases.specs.meaning.Journals.{dependence_for}
use Rattle.call_cases.specs.meaning.Lines.{input_line}

-- what comes of a trace with these bytes, where these files were read: the verdict on its lines, or the line of its first row that is none
pub data Judges (file : Name) (names : List Name) (work : ToDo) (bytes : List ℕ) : Case Verdict → Type 0 where
  of_lines : {lines : List TraceLine} {verdict : Verdict} → IsTrace bytes lines → IsVerdict (dependence_for work) work.faults lines verdict
      → Judges file names work bytes (Go names verdict)
  of_row : {row : ℕ} → IsBrokenAt bytes row → Judges file names work bytes (Refused 4 names (input_line file 9 row))

-- what there is to be judged, by the files beside a program: those that its run would read, and then that of the trace
abbrev pub supplies : Audited → Program → Files → Case Verdict → Type 0
supplies audited program files =
    ThenLoads (supplied_by audited.run program files) (λ names work. ReadsFile names audited.trace (bytes_of files audited.trace)
    (Judges audited.trace (names ++ audited.trace ∷ []) work))
