-- What a run that goes on comes to by the files of a call: the run that is asked for, and the rows of its log.
use Rattle.std.specs.Prelude.{◌≡◌, ℕ, List, [], ◌∷◌, ◌++◌}
use Rattle.gp_base.specs.meaning.Files.{bytes_of}
use Rattle.task_ast.specs.meaning.Tree.{Name, Program}
use Rattle.retirement_log.specs.meaning.Rows.{Retirement}
use Rattle.gp_resume.specs.meaning.Reading.{LogAnswer, Rows, Broken, Unfit, IsAnswer}
use Rattle.command_line.specs.declared.resume_words.Resumed.{Resumed}
use Rattle.call_cases.specs.meaning.Work.{Files, ToDo, Case, Refused, Go}
use Rattle.call_cases.specs.meaning.InputFiles.{supplied_by, ThenLoads, ReadsFile}
use Rattle.call_cases.specs.meaning.Lines.{input_line}

-- the run that is to go on, and the rows of its log
pub record Resumption : Type 0 where
  pub work : ToDo
  pub rows : List Retirement

-- what comes of the answer to the bytes of a log, where these files were read
abbrev pub by_answer : (file : Name) → (names : List Name) → ToDo → LogAnswer → Case Resumption
by_answer file names work (Rows rows) = Go names (record { work = work; rows = rows })
by_answer file names work (Broken number) = Refused 4 names (input_line file 7 number)
by_answer file names work (Unfit number) = Refused 4 names (input_line file 8 number)

-- what comes of these bytes, by what they come to for this run
abbrev pub GoesOn : (file : Name) → (names : List Name) → ToDo → (bytes : List ℕ) → Case Resumption → Type 0
GoesOn file names work bytes case =
    (answer : LogAnswer) × IsAnswer work.program work.inputs work.limits bytes answer × (case ≡ by_answer file names work answer)

-- what there is to go on with, by the files beside a program: those that its run reads first, and then that of the log
abbrev pub supplies : Resumed → Program → Files → Case Resumption → Type 0
supplies resumed program files =
    ThenLoads (supplied_by resumed.run program files) (λ names work. ReadsFile names resumed.log (bytes_of files resumed.log)
    (GoesOn resumed.log (names ++ resumed.log ∷ []) work))
