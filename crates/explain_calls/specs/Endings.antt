-- How a call that explains ends.
use Rattle.std.specs.Prelude.{◌≡◌, ◌⊎◌, ℕ, List, [], Option, Result, ⊤}
use Rattle.std.specs.declared.result.Result.TheVariants.{Ok, Err}
use Rattle.gp_base.specs.declared.sink.SinkFault.{SinkFault}
use Rattle.gp_base.specs.declared.sink.SinkFault.TheVariants.{Failed}
use Rattle.task_ast.specs.meaning.Tree.{Name}
use Rattle.command_line.specs.declared.asked.Asked.{Asked}
use Rattle.call_cases.specs.declared.work.Request.{Request}
use Rattle.call_cases.specs.declared.reading.Refusal.{Refusal}
use Rattle.call_cases.specs.declared.reading.Refusal.TheVariants.{Usage, BadProgram, BadInput, ReadFault, OutOfMemory}
use Rattle.call_cases.specs.meaning.RunCommands.{MayRead, end_status}
use Rattle.call_cases.specs.meaning.PlainText.{plain_ran}
use Rattle.call_cases.specs.meaning.Work.{ToDo, Go}
use Rattle.call_cases.specs.meaning.Answers.{Change, TakesAll, TakesPart, Fails}
use Rattle.call_cases.specs.declared.lines.Tool.TheVariants.{GprsView}
use Rattle.call_cases.specs.Answers.{LineEnds, StopsBy}
use Rattle.call_cases.specs.Refusals.{RefusesShelf}
use Rattle.explain_calls.specs.declared.reading.Readied.{Readied}
use Rattle.explain_calls.specs.declared.reading.Explained.{Explained}
use Rattle.explain_calls.specs.meaning.Fronts.{IsHint, IsText}

-- A text was written whole, and then the line that is due; or a part of it was written, and the line that tells why.
pub data TellEnds (text : List ℕ) (due : ℕ) (line : List ℕ) (out err : Change) : ℕ → Type 0 where
  told : {status : ℕ} → TakesAll out text → LineEnds due line err status → TellEnds text due line out err status
  untold : {status : ℕ} (fault : SinkFault) → TakesPart out text → (fault ≡ Failed → Fails out)
      → StopsBy GprsView fault err status → TellEnds text due line out err status

-- a run was told, by one of its texts
abbrev pub RunTold : ToDo → Change → Change → ℕ → Type 0
RunTold work out err status = (text : List ℕ) × IsText (Go [] work) text × TellEnds text (end_status (plain_ran work).end) [] out err status

-- the request, or the refusal, alone
abbrev pub plainly : Result Readied Explained → Result Request Refusal
plainly (Ok read) = Ok read.request
plainly (Err explained) = Err explained.refusal

-- the same refusal, or that memory is out
abbrev pub IsOrShort : Refusal → Refusal → Type 0
IsOrShort refusal other = (other ≡ refusal) ⊎ (other ≡ OutOfMemory)

-- the shelf is left as it was, but where a file is refused
abbrev pub KeepsFor : Refusal → Type 0 → Type 0
KeepsFor (BadInput line) same = ⊤
KeepsFor refusal same = same

-- the texts of a refusal; there is none where memory is out
abbrev pub TextFor : Refusal → List ℕ → Type 0
TextFor Usage text = IsHint text
TextFor (BadProgram line) text = ⊤
TextFor (BadInput line) text = ⊤
TextFor (ReadFault name) text = IsHint text
TextFor OutOfMemory text = text ≡ []

-- The reads failed as they do where a request is read, but for those of a refused file, which is read once more.
abbrev pub LeavesShelf : Option Asked → (before now : List Name) → Refusal → Type 0
LeavesShelf asked before now (BadInput line) = ⊤
LeavesShelf asked before now refusal = RefusesShelf MayRead asked before now refusal

abbrev pub ReadsShelf : Option Asked → (before now : List Name) → Result Readied Explained → Type 0
ReadsShelf asked before now (Ok read) = now ≡ before
ReadsShelf asked before now (Err explained) = LeavesShelf asked before now explained.refusal
