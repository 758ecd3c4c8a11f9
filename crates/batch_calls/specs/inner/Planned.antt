-- Runs that may begin, and what comes of them.
use Rattle.std.specs.Prelude.{◌≡◌, ℕ, true, false, []}
use Rattle.gp_base.specs.declared.journal.Journal.{Journal}
use Rattle.task_ast.specs.View.{plain_program}
use Rattle.lock_checker.specs.Accepted.{program_of}
use Rattle.subthread.specs.declared.task.Work.{Work}
use Rattle.subthread.specs.Tasks.{Suits, program_in}
use Rattle.command_line.specs.declared.asked.Asked.{Asked}
use Rattle.command_line.specs.declared.asked.Command.{Command}
use Rattle.command_line.specs.declared.asked.Command.TheVariants.{Ckpt, Log}
use Rattle.whole_run.specs.declared.recovery.Recovery.{Recovery}
use Rattle.whole_run.specs.declared.recovery.Recovery.TheVariants.{Selective, Rollback}
use Rattle.whole_run.specs.Recovering.{HasCuts}
use Rattle.call_cases.specs.meaning.Work.{ToDo, work_for, is_journalled}
use Rattle.call_cases.specs.meaning.Answers.{Change, IsEmpty}
use Rattle.call_cases.specs.Answers.{RunEnds, LogEnds}
use Rattle.call_cases.specs.meaning.RunCommands.{work_text, work_status, trace_for}
use Rattle.batch_calls.specs.declared.plan.Begins.{Begins}
use Rattle.batch_calls.specs.declared.plan.AskedRun.{AskedRun}
use Rattle.batch_calls.specs.meaning.LogCommands.{log_for, TakesLog}
use Rattle.batch_calls.specs.inner.Ran.{Journalled}

-- how the run of a command recovers from faults
abbrev pub recovery_of : Command → Recovery
recovery_of (Ckpt every) = Rollback every
recovery_of other = Selective

-- the work is that of the plan's program, and what its run begins with suits the code and what is asked
pub record IsPlanned (plan : AskedRun) (work : Work) (begins : Begins) : Type 0 where
  pub suits : Suits work begins.layout begins.inputs begins.limits
  pub program_is : program_in work ≡ plain_program (program_of plan.checked)
  pub limits_are : begins.limits ≡ plan.asked.limits
  pub recovery_is : begins.recovery ≡ recovery_of plan.asked.command
  pub cuts : HasCuts begins.recovery

-- what is to be done by a plan, from what its run begins with
abbrev pub work_planned : AskedRun → Begins → ToDo
work_planned plan begins = work_for plan.asked (plain_program (program_of plan.checked)) begins.inputs begins.faults.list

-- the same, without faults
abbrev pub without_faults : ToDo → ToDo
without_faults work = record work { faults = [] }

-- how a work of this command ends: the error stream takes the log of the run, or the trace
abbrev pub EndsBy : Command → Asked → ToDo → (out err : Change) → (status : ℕ) → Journal → Type 0
EndsBy Log asked work out err status journal =
    LogEnds (work_text Log work) (log_for work) (TakesLog work journal) (work_status Log work) out err journal status
EndsBy other asked work out err status journal =
    RunEnds (work_text other work) (trace_for asked journal) (work_status other work) out err status

-- what is asked was done, or stopped
pub record Carries (asked : Asked) (work : ToDo) (out err : Change) (status : ℕ) (journal : Journal) : Type 0 where
  pub ends : EndsBy work.command asked work out err status journal
  pub unjournalled : is_journalled asked.command ≡ false → IsEmpty journal
  pub run : is_journalled asked.command ≡ true → Journalled work status journal out
