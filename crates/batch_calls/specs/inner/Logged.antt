-- How a run of which a log is kept stands to its work.
use Rattle.std.specs.Prelude.{ℕ, List, Result, OnOk}
use Rattle.gp_base.specs.declared.journal.Journal.{Journal}
use Rattle.reorder_list.specs.declared.report.Report.{Report}
use Rattle.reorder_list.specs.declared.report.EngineStop.{EngineStop}
use Rattle.reorder_list.specs.declared.report.StopWhy.{StopWhy}
use Rattle.reorder_list.specs.declared.report.StopWhy.TheVariants.{WriteFault, OutOfMemory}
use Rattle.whole_run.specs.Drive.{journal_in}
use Rattle.call_cases.specs.meaning.Work.{ToDo}
use Rattle.call_cases.specs.meaning.PlainText.{plain_ran}
use Rattle.call_cases.specs.meaning.Answers.{Change, TakesAll}
use Rattle.call_cases.specs.Answers.{LogEnds}
use Rattle.call_cases.specs.meaning.RunCommands.{end_status}
use Rattle.batch_calls.specs.meaning.LogCommands.{log_for, TakesLog}
use Rattle.batch_calls.specs.inner.Ran.{Journalled}

-- the log of the run was taken, all of it at its end
pub record IsLogged (work : ToDo) (log : Change) (result : Result Report EngineStop) : Type 0 where
  pub whole : OnOk result (TakesAll log (log_for work))
  pub taken : TakesLog work (journal_in result) log

-- the status of a stop
abbrev pub stop_status : StopWhy → ℕ
stop_status WriteFault = 8
stop_status OutOfMemory = 1

-- how a run ends whose text is this: its answer, and what it writes
pub record LogsFor (work : ToDo) (text : List ℕ) (out err : Change) (status : ℕ) (journal : Journal) : Type 0 where
  pub ends : LogEnds text (log_for work) (TakesLog work journal) (end_status (plain_ran work).end) out err journal status
  pub journalled : Journalled work status journal out
