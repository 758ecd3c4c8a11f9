-- How the parts of a call end: by what they wrote, and which status they answer.
use Rattle.std.specs.Prelude.{◌≡◌, ◌⊎◌, ℕ, List, Option, Result, OnOk, OnErr, IfOk, IfErr}
use Rattle.gp_base.specs.declared.sink.SinkFault.{SinkFault}
use Rattle.gp_base.specs.declared.sink.SinkFault.TheVariants.{Failed}
use Rattle.gp_base.specs.declared.sink.SinkFault.TheVariants as sink
use Rattle.gp_base.specs.declared.journal.Journal.{Journal}
use Rattle.call_cases.specs.declared.lines.Tool.{Tool}
use Rattle.call_cases.specs.declared.lines.Tool.TheVariants.{Gprs}
use Rattle.call_cases.specs.meaning.Lines.{tool_line, out_of_memory_line, write_fault_line}
use Rattle.call_cases.specs.meaning.Answers.{Change, Fails, IsEmpty, IsStopLine, IsUntouched, TakesAll, TakesPart}

-- nothing was done to a sink with these bytes and this count
abbrev pub unwritten : Option (List ℕ) → ℕ → Change
unwritten written faults = record { written = written; written' = written; faults = faults; faults' = faults }

-- A line was written whole and the due status is answered. A fault of the sink makes it 8, and running out of memory 1;
-- a prefix was then written.
pub data LineEnds (due : ℕ) (line : List ℕ) (err : Change) : ℕ → Type 0 where
  whole : TakesAll err line → LineEnds due line err due
  line_failed : TakesPart err line → Fails err → LineEnds due line err 8
  line_no_memory : TakesPart err line → LineEnds due line err 1

-- a prefix of one text alone was taken: of this trace, or of the line that tells why the call stopped
abbrev pub TakesOneOf : Tool → (trace : List ℕ) → Change → Type 0
TakesOneOf tool trace err = (line : List ℕ) × ((line ≡ trace) ⊎ IsStopLine tool line) × TakesPart err line

-- How a work ends whose text and status are these, and which writes this trace to the error stream, or a prefix of it,
-- or of the line that tells why it stopped.
pub data RunEndsOf (tool : Tool) (text trace : List ℕ) (due : ℕ) (out err : Change) : ℕ → Type 0 where
  finished : TakesAll out text → TakesAll err trace → RunEndsOf tool text trace due out err due
  run_no_memory : TakesPart out text → TakesOneOf tool trace err → RunEndsOf tool text trace due out err 1
  output_failed : TakesPart out text → Fails out → TakesAll err (tool_line tool write_fault_line)
      → RunEndsOf tool text trace due out err 8
  error_failed : TakesPart out text → Fails err → TakesOneOf tool trace err → RunEndsOf tool text trace due out err 8

-- How a work ends whose text and status are these, and of which this log is kept on the error stream; `taken` says what
-- of the log that took, also where the work stopped on the way. Where memory ran out before a run began, the line of
-- that stands in place of the log.
pub data LogEndsOf (tool : Tool) (text log : List ℕ) (taken : Change → Type 0) (due : ℕ) (out err : Change) (journal : Journal)
    : ℕ → Type 0 where
  log_finished : TakesAll out text → TakesAll err log → taken err → LogEndsOf tool text log taken due out err journal due
  log_no_memory : TakesPart out text → taken err → LogEndsOf tool text log taken due out err journal 1
  log_write_failed : TakesPart out text → Fails out ⊎ Fails err → taken err → LogEndsOf tool text log taken due out err journal 8
  log_unbegun : {status : ℕ} → IsUntouched out → IsEmpty journal → LineEnds 1 (tool_line tool out_of_memory_line) err status
      → LogEndsOf tool text log taken due out err journal status

-- how a text was written that is all there is to write, and its status
pub record PutFor (text : List ℕ) (due : ℕ) (out : Change) (result : Result ℕ SinkFault) : Type 0 where
  pub status : IfOk result (λ status. status ≡ due)
  pub all : OnOk result (TakesAll out text)
  pub part : OnErr result (TakesPart out text)
  pub cause : IfErr result (λ fault. fault ≡ Failed → Fails out)

-- the line that tells why a write stopped was written, or it was not
abbrev pub StopsBy : Tool → SinkFault → Change → ℕ → Type 0
StopsBy tool Failed err status = LineEnds 8 (tool_line tool write_fault_line) err status
StopsBy tool sink.OutOfMemory err status = LineEnds 1 (tool_line tool out_of_memory_line) err status

-- the same for the calls of `gprs`, with its lines that tell a stop
abbrev pub memory_line : List ℕ
memory_line = tool_line Gprs out_of_memory_line

abbrev pub write_line : List ℕ
write_line = tool_line Gprs write_fault_line

abbrev pub RunEnds : (text trace : List ℕ) → (due : ℕ) → (out err : Change) → ℕ → Type 0
RunEnds = RunEndsOf Gprs

abbrev pub LogEnds : (text log : List ℕ) → (taken : Change → Type 0) → (due : ℕ) → (out err : Change) → Journal → ℕ → Type 0
LogEnds = LogEndsOf Gprs
