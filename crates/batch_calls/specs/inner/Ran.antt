-- How the parts of a run over a journal stand to its work.
use Rattle.std.specs.Prelude.{◌≡◌, ◌⊎◌, ◌≤◌, ◌-◌, ℕ, ⊤, List, ◌++◌, length, take, flat_map, slice_get, Result, OnOk, OnErr, IfOk, IfErr}
use Rattle.gp_base.specs.declared.journal.Journal.{Journal}
use Rattle.gp_base.specs.declared.sink.SinkFault.{SinkFault}
use Rattle.gp_base.specs.declared.sink.SinkFault.TheVariants.{Failed}
use Rattle.gp_base.specs.declared.sink.SinkFault.TheVariants as sink
use Rattle.task_ast.specs.meaning.Tree.{Program}
use Rattle.task_ast.specs.meaning.Names.{records_of}
use Rattle.task_ast.specs.meaning.Layout.{cut}
use Rattle.task_ast.specs.meaning.Plain.{Subthread}
use Rattle.command_line.specs.declared.asked.Command.{Command}
use Rattle.command_line.specs.declared.asked.Command.TheVariants as command
use Rattle.command_line.specs.declared.asked.Soak.{Soak}
use Rattle.restart_log.specs.meaning.Tail as tail
use Rattle.restart_log.specs.meaning.Soak as soak
use Rattle.reorder_list.specs.declared.report.Report.{Report}
use Rattle.reorder_list.specs.declared.report.EngineStop.{EngineStop}
use Rattle.reorder_list.specs.declared.report.StopWhy.{StopWhy}
use Rattle.reorder_list.specs.declared.report.StopWhy.TheVariants.{WriteFault}
use Rattle.reorder_list.specs.declared.report.StopWhy.TheVariants as why
use Rattle.restart_log.specs.meaning.Lines.{printed}
use Rattle.whole_run.specs.Drive.{journal_in, JournalStands, ReportsRun, all_lines, WritesRetired, HasRunCause}
use Rattle.whole_run.specs.View.{Batch, lines_of}
use Rattle.call_cases.specs.meaning.Work.{ToDo}
use Rattle.call_cases.specs.meaning.PlainText.{plain_ran, restarts_in}
use Rattle.call_cases.specs.meaning.Journals.{run_of, retired_in, IsJournalOf, IsCompleteOf, TakesRetired}
use Rattle.call_cases.specs.meaning.Answers.{Change, TakesAll, TakesPart, Fails}
use Rattle.call_cases.specs.Answers.{LineEnds, memory_line, write_line, RunEnds}
use Rattle.call_cases.specs.meaning.RunCommands.{end_status, IsWhole}

-- a run that stopped at a fault of its output, with this journal
pub record Stops (fault : SinkFault) (journal : Journal) (stop : EngineStop) : Type 0 where
  pub journal_is : stop.journal ≡ journal
  pub failed : stop.why ≡ WriteFault → fault ≡ Failed

-- why a run stops at a fault of its output
abbrev pub why_of : SinkFault → StopWhy
why_of Failed = WriteFault
why_of sink.OutOfMemory = why.OutOfMemory

-- the fault of its output at which a run stopped
abbrev pub fault_of : StopWhy → SinkFault
fault_of WriteFault = Failed
fault_of why.OutOfMemory = sink.OutOfMemory

-- the line that tells why a call stopped was written, or it was not
abbrev pub StopsWith : StopWhy → Change → ℕ → Type 0
StopsWith WriteFault err status = LineEnds 8 write_line err status
StopsWith why.OutOfMemory err status = LineEnds 1 memory_line err status

-- a trace was written, or where there was no memory to make it, the line of that
abbrev pub TraceEnds : (due : ℕ) (trace : List ℕ) → Change → ℕ → Type 0
TraceEnds due trace err status = LineEnds due trace err status ⊎ LineEnds 1 memory_line err status

-- what follows the printed lines of a run of this program with this report, and the summary of it
abbrev pub told_tail : Program → Report → List ℕ
told_tail program report =
    tail.tail_text report.end (cut (records_of program.heads) report.records) report.subthreads report.journal.restarts report.unused

abbrev pub told_soak : Soak → Report → List ℕ
told_soak batch report =
    soak.soak_text batch.moves batch.start report.end report.records report.subthreads report.journal.restarts report.unused

-- the command writes the lines that its run prints; of a batch that the program makes nobody reads them
abbrev pub WritesLines : Command → Type 0
WritesLines (command.Soak soak) = ⊥
WritesLines other = ⊤

-- the bytes of the lines before a position, and of those at it
abbrev pub bytes_below : ToDo → ℕ → List ℕ
bytes_below work p = printed (flat_map (λ (s : Subthread). s.lines) (take p (run_of work)))

abbrev pub bytes_at : ToDo → ℕ → List ℕ
bytes_at work p = printed (lines_of (slice_get (run_of work) p))

-- the report of the whole run
pub record IsReportOf (work : ToDo) (report : Report) : Type 0 where
  pub complete : IsCompleteOf work report.journal
  pub restarts : report.journal.restarts ≡ restarts_in work
  pub end : report.end ≡ (plain_ran work).end
  pub cells : report.records ≡ (plain_ran work).cells
  pub subthreads : report.subthreads ≡ (plain_ran work).subthreads
  pub unused : report.unused ≡ length work.faults - length (restarts_in work)

-- what is promised of a batch that was run
pub record RunsBatch (batch : Batch) (out : Change) (result : Result Report EngineStop) : Type 0 where
  pub journal : JournalStands batch (journal_in result)
  pub report : IfOk result (ReportsRun batch)
  pub lines : OnOk result (TakesAll out (printed (all_lines batch)))
  pub partly : WritesRetired batch out.written out.written' (journal_in result)
  pub cause : HasRunCause out.faults out.faults' result

-- The run went, and its lines were written: all of them at its end, and else those of the subthreads that have retired, and a part of those
-- of the next. Where it stopped at a write, that failed.
pub record RunsIf (failed : Type 0) (work : ToDo) (out : Change) (result : Result Report EngineStop) : Type 0 where
  pub journal : IsJournalOf work (journal_in result)
  pub report : IfOk result (IsReportOf work)
  pub lines : OnOk result (TakesAll out (printed (plain_ran work).lines))
  pub partly : (part : ℕ) × TakesAll out (bytes_below work (retired_in work (journal_in result))
      ++ take part (bytes_at work (retired_in work (journal_in result))))
  pub later : out.faults ≤ out.faults'
  pub cause : IfErr result (λ stop. stop.why ≡ WriteFault → failed)

-- so where all that is written is the output
abbrev pub RunsWork : ToDo → Change → Result Report EngineStop → Type 0
RunsWork work out result = RunsIf (Fails out) work out result

-- the run went and the text of the work was written, or a part of it; where it stopped at a write, that failed
pub record RanIf (failed : Type 0) (work : ToDo) (text : List ℕ) (out : Change) (result : Result Report EngineStop) : Type 0 where
  pub journal : IsJournalOf work (journal_in result)
  pub report : IfOk result (IsReportOf work)
  pub all : OnOk result (TakesAll out text)
  pub part : OnErr result (TakesPart out text)
  pub retired : TakesRetired work (journal_in result) out
  pub cause : IfErr result (λ stop. stop.why ≡ WriteFault → failed)

-- so where all that is written is the output
abbrev pub RanFor : ToDo → List ℕ → Change → Result Report EngineStop → Type 0
RanFor work text out result = RanIf (Fails out) work text out result

-- what the journal of an answer says of the run, and of what was written
pub record Journalled (work : ToDo) (status : ℕ) (journal : Journal) (out : Change) : Type 0 where
  pub lawful : IsJournalOf work journal
  pub complete : IsWhole status → IsCompleteOf work journal
  pub retired : TakesRetired work journal out

-- how a run over a journal ends whose text is this: its answer, and what it writes
pub record EndsFor (work : ToDo) (text trace : List ℕ) (out err : Change) (status : ℕ) (journal : Journal) : Type 0 where
  pub ends : RunEnds text trace (end_status (plain_ran work).end) out err status
  pub journalled : Journalled work status journal out
