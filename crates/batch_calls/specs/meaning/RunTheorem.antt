-- The theorem of `gprs run PROGRAM --faults FILE ..`: what it publishes is what one thread publishes without faults, and then what the faults made it redo.
use Rattle.std.specs.Prelude.{◌≡◌, ◌⊎◌, ℕ, ◌-◌, List, [], ◌++◌, length, codes, Option, Some, None}
use Rattle.gp_base.specs.declared.fault.Fault.{Fault}
use Rattle.gp_base.specs.declared.feed.Inputs.{Inputs}
use Rattle.gp_base.specs.meaning.Files.{bytes_of}
use Rattle.task_ast.specs.meaning.Check.{check_fault}
use Rattle.task_ast.specs.meaning.Tree.{Name, Program}
use Rattle.task_parser.specs.meaning.Spelling.{Spells}
use Rattle.restart_log.specs.meaning.Lines.{printed}
use Rattle.restart_log.specs.meaning.Tail.{end_section, restart_lines, counts_section}
use Rattle.command_line.specs.declared.asked.Asked.{Asked}
use Rattle.command_line.specs.declared.asked.Command.TheVariants.{Run}
use Rattle.command_line.specs.meaning.Words.{asked_by}
use Rattle.call_cases.specs.declared.lines.Tool.TheVariants.{Gprs}
use Rattle.call_cases.specs.meaning.Answers.{TakesAll, TakesPart, TakesNothing, Fails, Grew, IsStopLine}
use Rattle.call_cases.specs.meaning.Headline.{Call}
use Rattle.call_cases.specs.meaning.InputFiles.{load, load_faults, no_inputs}
use Rattle.call_cases.specs.meaning.Lines.{tool_line, read_fault_line}
use Rattle.call_cases.specs.meaning.PlainText.{plain_ran, restarts_in}
use Rattle.call_cases.specs.meaning.RunCommands.{end_status, trace_for}
use Rattle.call_cases.specs.meaning.Work.{Files, Case, Refused, Go, ToDo, work_for}

-- what reading files gave, where none was refused
abbrev pub gave : {T : Type 0} → Case T → Option T
gave (Go names value) = Some value
gave (Refused status names line) = None

-- what is published of a batch: what its run on one thread without faults prints, its subthreads in token order, and its end, with the records
-- where it finished; and then the restarts that dependence makes of the faults, and the counts
abbrev pub published : ToDo → List ℕ
published batch =
    let ran = plain_ran batch in
    let restarts = restarts_in batch in
    codes "output\n" ++ (printed ran.lines ++ (end_section ran.end ran.records ++ codes "restarts\n" ++ restart_lines 1 restarts
    ++ counts_section ran.subthreads restarts (length batch.faults - length restarts)))

-- `run` is asked for; the file of the program spells it, no rule refuses it, and the files that it names, and that of the faults, give these
pub record IsBatch (asked : Asked) (files : Files) (program : Program) (inputs : Inputs) (faults : List Fault) : Type 0 where
  pub run : asked.command ≡ Run
  pub text : List ℕ
  pub stands : bytes_of files asked.program ≡ Some text
  pub spells : Spells text program
  pub accepted : check_fault program ≡ None
  pub gives : gave (load files [] no_inputs program.heads) ≡ Some inputs
  pub lists : gave (load_faults files [] asked.faults) ≡ Some faults

-- how a call ends that is to publish this text, to end with this status, and to leave this trace
pub data Ends (text : List ℕ) (status : ℕ) (trace : List ℕ) (call : Call) : Type 0 where
  -- it went to its end
  whole : call.status ≡ status → TakesAll call.out text → TakesAll call.err trace → Ends text status trace call
  -- it was stopped: memory ran out, 1, or a write failed, 8; the line tells why
  stopped : (call.status ≡ 1) ⊎ (call.status ≡ 8) × (Fails call.out ⊎ Fails call.err) → TakesPart call.out text
      → (line : List ℕ) → IsStopLine Gprs line ⊎ (line ≡ trace) ⊎ (name : Name) × (line ≡ tool_line Gprs (read_fault_line name))
      → TakesPart call.err line → Ends text status trace call
  -- a file could not be read, 7: nothing was published
  unread : call.status ≡ 7 → Grew call.failed call.failed' → TakesNothing call.out
      → (name : Name) → TakesAll call.err (tool_line Gprs (read_fault_line name)) → Ends text status trace call

-- The theorem: whatever the crew, the number of workers and the schedule, a call that such a batch is asked of ends so; its status is 0 where the
-- run of one thread finishes, 5 where it is stuck, and 6 where a limit is spent.
abbrev pub RunsBatch : Call → Type 0
RunsBatch call =
    (files : Files) (asked : Asked) (program : Program) (inputs : Inputs) (faults : List Fault)
    → call.files ≡ Some files → asked_by call.words ≡ Some asked → IsBatch asked files program inputs faults
    → let batch = work_for asked program inputs faults in
    Ends (published batch) (end_status (plain_ran batch).end) (trace_for asked call.journal) call
