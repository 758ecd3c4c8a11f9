-- How what words ask for is answered, however they are read.
use Rattle.std.specs.Prelude.{◌≡◌, ℕ, List, Option, None, Some, Result, IfOk, IfSome}
use Rattle.task_ast.specs.meaning.Tree.{Name}
use Rattle.command_line.specs.declared.asked.Asked.{Asked}
use Rattle.call_cases.specs.declared.work.Request.{Request}
use Rattle.call_cases.specs.declared.reading.Refusal.{Refusal}
use Rattle.call_cases.specs.meaning.Work.{Files, ToDo}
use Rattle.call_cases.specs.meaning.Case.{IsCase}
use Rattle.call_cases.specs.meaning.Commands.{Asking}
use Rattle.call_cases.specs.meaning.Headline.{ReadsNothing}
use Rattle.call_cases.specs.meaning.RunCommands.{MayRead}
use Rattle.call_cases.specs.meaning.RunCommands as gprs
use Rattle.call_cases.specs.Decided.{case_of}
use Rattle.call_cases.specs.Refusals.{AnswersCase, AnswersNoCommand, TouchesShelf}

-- what words ask for that are read so, and what that comes to by the files
abbrev pub asking_by : (List (List ℕ) → Option Asked) → Asking Asked ToDo
asking_by reading = record gprs.asking { reading = reading }

-- The answer to words that are read so: by the case of the call, as far as the shelf tells its files, with the reads that failed before and
-- since. Nothing is done to the shelf for words of no command, nor for a batch that the program makes itself.
pub record Answers (reading : List (List ℕ) → Option Asked) (words : List (List ℕ)) (files : Option Files) (failed failed' : List Name)
    (kept : Type 0) (result : Result Request Refusal) : Type 0 where
  pub no_command : reading words ≡ None → AnswersNoCommand result
  pub unread : ReadsNothing gprs.commands (reading words) → kept
  pub shelf : TouchesShelf MayRead (reading words) failed failed' result
  pub case : IfSome files (λ files. AnswersCase case_of (IsCase (asking_by reading) words files) result)
  pub asked : IfOk result (λ request. reading words ≡ Some request.asked)
