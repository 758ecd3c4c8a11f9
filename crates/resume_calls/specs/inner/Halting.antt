-- How what is read for a run that goes on stands to its case.
use Rattle.std.specs.Prelude.{ℕ, List, [], ◌∷◌, ◌++◌, ◌≤◌, length}
use Rattle.gp_base.specs.declared.limits.TheConstants.{MOST_FILE_BYTES}
use Rattle.gp_base.specs.declared.feed.Inputs.{Inputs}
use Rattle.gp_base.specs.declared.limits.Limits.{Limits}
use Rattle.task_ast.specs.meaning.Tree.{Name, Program}
use Rattle.gp_resume.specs.meaning.Reading.{LogAnswer, IsAnswer}
use Rattle.command_line.specs.declared.resume_words.Resumed.{Resumed}
use Rattle.call_cases.specs.meaning.Work.{ToDo, Case}
use Rattle.call_cases.specs.Decided.{IsSound, program_in, files_read, work_of}
use Rattle.resume_calls.specs.declared.halted.Halted.{Halted}
use Rattle.resume_calls.specs.meaning.Resumption.{Resumption, by_answer}

-- the words that ask for it
abbrev pub resumed_in : Halted → Resumed
resumed_in halted = record { run = halted.request.asked; log = halted.log }

-- the files that were read before the log
abbrev pub files_before : Halted → List Name
files_before halted = files_read halted.request.asked (program_in halted.request)

-- who reads logs, by the definition of what they come to
pub record Reader : Type 0 where
  pub answer_of : Program → Inputs → Limits → List ℕ → LogAnswer
  pub answers : (program : Program) (inputs : Inputs) (limits : Limits) (bytes : List ℕ)
      → IsAnswer program inputs limits bytes (answer_of program inputs limits bytes)

-- what these bytes of a log come to for this run
abbrev pub answer_for : Reader → ToDo → List ℕ → LogAnswer
answer_for reader work bytes = reader.answer_of work.program work.inputs work.limits bytes

-- its case, by what its log comes to
abbrev pub case_of : Reader → Halted → Case Resumption
case_of reader halted =
    let work = work_of halted.request in by_answer halted.log (files_before halted ++ halted.log ∷ []) work
    (answer_for reader work halted.text)

-- it may go on
pub record MayGoOn (halted : Halted) : Type 0 where
  pub sound : IsSound halted.request.asked (program_in halted.request) halted.request.inputs
  pub short : length halted.text ≤ MOST_FILE_BYTES
