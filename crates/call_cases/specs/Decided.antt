-- What is known of the case of a call once its words and its program were read.
use Rattle.std.specs.Prelude.{◌≡◌, ◌≤◌, List, [], ℕ, ◌∷◌, ◌++◌, true, Result, ⊤}
use Rattle.std.specs.declared.result.Result.TheVariants.{Ok, Err}
use Rattle.task_ast.specs.meaning.Tree.{Name, Program}
use Rattle.gp_base.specs.declared.limits.TheConstants.{MOST_WORKERS}
use Rattle.task_ast.specs.View.{plain_program}
use Rattle.task_ast.specs.Inputs.{AreInputsOf}
use Rattle.task_parser.specs.meaning.Spelling.{Meaning, Means, Spells}
use Rattle.task_parser.specs.declared.fault.LexFault.{LexFault}
use Rattle.task_parser.specs.declared.fault.LexFault.TheVariants as lex
use Rattle.task_parser.specs.declared.fault.ParseFault.{ParseFault}
use Rattle.task_parser.specs.declared.fault.ParseFault.TheVariants as parse
use Rattle.gp_base.specs.declared.feed.Inputs.{Inputs}
use Rattle.lock_checker.specs.Accepted.{program_of}
use Rattle.lock_checker.specs.declared.checked.Checked.{Checked}
use Rattle.lock_checker.specs.declared.fault.CheckFault.{CheckFault}
use Rattle.lock_checker.specs.declared.fault.CheckFault.TheVariants as check
use Rattle.command_line.specs.Words.{IsWithinRanges}
use Rattle.command_line.specs.declared.asked.Asked.{Asked}
use Rattle.call_cases.specs.declared.work.Request.{Request}
use Rattle.call_cases.specs.declared.reading.Refusal.{Refusal}
use Rattle.call_cases.specs.declared.reading.Refusal.TheVariants.{BadProgram as RefusedProgram, OutOfMemory}
use Rattle.call_cases.specs.meaning.Work.{Files, ToDo, work_for, runs, Case, Refused, Go, after_file}
use Rattle.call_cases.specs.meaning.InputFiles.{supplied_by}
use Rattle.call_cases.specs.InputFiles.{names_for, named}
use Rattle.call_cases.specs.meaning.RunCommands.{asking}
use Rattle.call_cases.specs.meaning.Case.{IsMeantCase}
use Rattle.call_cases.specs.meaning.Lines.{lex_line, parse_line, check_line}

-- the program of a request, what is to be done with it, and the files that were read for it
abbrev pub program_in : Request → Program
program_in request = plain_program (program_of request.checked)

abbrev pub work_of : Request → ToDo
work_of request = work_for request.asked (program_in request) request.inputs request.faults.list

abbrev pub files_read : Asked → Program → List Name
files_read asked program = asked.program ∷ (names_for asked.command program.heads ++ named asked.faults)

-- its case
abbrev pub case_of : Request → Case ToDo
case_of request = Go (files_read request.asked (program_in request)) (work_of request)

-- the case of what is asked, where the program's file has this text, whatever other files there are
abbrev pub ComesTo : Asked → List ℕ → Case ToDo → Type 0
ComesTo asked text case = (meaning : Meaning) × Means text meaning × ((files : Files) → IsMeantCase asking files asked meaning case)

-- the program of a text, where it is accepted, or the line of the text
abbrev pub IsAcceptedIn : Asked → List ℕ → Result Checked Refusal → Type 0
IsAcceptedIn asked text (Ok checked) = Spells text (plain_program (program_of checked))
IsAcceptedIn asked text (Err (RefusedProgram line)) = ComesTo asked text (Refused 3 (asked.program ∷ []) line)
IsAcceptedIn asked text (Err OutOfMemory) = ⊤
IsAcceptedIn asked text (Err refusal) = ⊥

-- the case of an accepted program
abbrev pub accepted_case : Asked → Program → Files → Case ToDo
accepted_case asked program files = after_file asked.program (supplied_by asked program files)

-- What may be run: the inputs are those of the program, the number of the command lies within its range, and there is a
-- worker and no more than there may be.
pub record IsSound (asked : Asked) (program : Program) (inputs : Inputs) : Type 0 where
  pub inputs_are : AreInputsOf program inputs
  pub ranges : IsWithinRanges asked.command
  pub some_worker : 1 ≤ asked.workers
  pub few_workers : asked.workers ≤ MOST_WORKERS

-- what is requested may be run, where its command runs it
abbrev pub MayRun : Request → Type 0
MayRun request = runs request.asked.command ≡ true → IsSound request.asked (program_in request) request.inputs

-- a refusal of the program with this line, unless memory is short
abbrev pub IsRefusedWith : List ℕ → Refusal → Type 0
IsRefusedWith line (RefusedProgram told) = told ≡ line
IsRefusedWith line OutOfMemory = ⊤
IsRefusedWith line refusal = ⊥

-- the refusal of a text with this fault of lexing
abbrev pub RefusesLexing : LexFault → Refusal → Type 0
RefusesLexing lex.OutOfMemory refusal = refusal ≡ OutOfMemory
RefusesLexing fault refusal = IsRefusedWith (lex_line fault) refusal

-- the refusal of a text with this fault of parsing
abbrev pub RefusesParsing : ParseFault → Refusal → Type 0
RefusesParsing parse.OutOfMemory refusal = refusal ≡ OutOfMemory
RefusesParsing fault refusal = IsRefusedWith (parse_line fault) refusal

-- the refusal of a text whose program has this fault
abbrev pub RefusesChecking : CheckFault → Refusal → Type 0
RefusesChecking (check.Bad kind line) refusal = IsRefusedWith (check_line kind line) refusal
RefusesChecking check.OutOfMemory refusal = refusal ≡ OutOfMemory
