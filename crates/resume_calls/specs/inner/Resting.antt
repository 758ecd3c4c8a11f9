-- How the text that is still to come is written, and how a call ends then.
use Rattle.std.specs.Prelude.{◌≡◌, ℕ, List, codes, Result, Ok, Err, OnOk, OnErr, IfOk, IfErr}
use Rattle.gp_base.specs.declared.feed.Inputs.{Inputs}
use Rattle.gp_base.specs.declared.limits.Limits.{Limits}
use Rattle.task_ast.specs.meaning.Tree.{Name, Program}
use Rattle.task_ast.specs.View.{plain_program}
use Rattle.task_ast.specs.meaning.Names.{records_of}
use Rattle.task_ast.specs.meaning.Layout.{cut}
use Rattle.lock_checker.specs.Accepted.{program_of}
use Rattle.subthread.specs.declared.task.Work.{Work}
use Rattle.subthread.specs.Tasks.{Suits, program_in}
use Rattle.reorder_list.specs.declared.report.Report.{Report}
use Rattle.restart_log.specs.meaning.Tail.{tail_text}
use Rattle.retirement_log.specs.meaning.Rows.{Retirement}
use Rattle.gp_resume.specs.declared.stop.ResumeStop.{ResumeStop}
use Rattle.gp_resume.specs.declared.stop.ResumeStop.TheVariants.{LogLine, LogFit, WriteFault, OutOfMemory}
use Rattle.gp_resume.specs.meaning.Reading.{EndsNoLine, IsLogOf}
use Rattle.gp_resume.specs.meaning.Resumed as rest
use Rattle.gp_resume.specs.Resuming.{AnswersLog, IsRefused, HasNoRows, HasResumeCause}
use Rattle.call_cases.specs.declared.reading.Refusal.{Refusal}
use Rattle.call_cases.specs.meaning.Answers.{Change, TakesAll, TakesPart, IsUntouched, Fails}
use Rattle.call_cases.specs.Answers.{LineEnds, memory_line, write_line}
use Rattle.call_cases.specs.meaning.Lines.{input_line}
use Rattle.call_cases.specs.Refusals.{IsInputRefused, RefusalEnds}
use Rattle.call_cases.specs.meaning.RunCommands.{end_status}
use Rattle.call_cases.specs.Decided.{program_in as request_program}
use Rattle.resume_calls.specs.declared.halted.Halted.{Halted}
use Rattle.resume_calls.specs.declared.plan.OpenedRun.{OpenedRun}

-- the work is that of the accepted program, and what its run begins with suits it
pub record IsPlanOf (work : Work) (plan : OpenedRun) : Type 0 where
  pub suits : Suits work plan.opening.layout plan.opening.inputs plan.opening.limits
  pub program_is : program_in work ≡ plain_program (program_of plan.checked)

-- Writes the first line, where no line ends in a log with these bytes; else nothing.
pub record PutsFirst {T : Type 0} (bytes : List ℕ) (out : Change) (result : Result T ResumeStop) : Type 0 where
  pub all : OnOk result (EndsNoLine bytes → TakesAll out (codes "output\n"))
  pub part : EndsNoLine bytes → TakesPart out (codes "output\n")
  pub kept : ¬ EndsNoLine bytes → IsUntouched out
  pub lacks : OnErr result (EndsNoLine bytes)
  pub told : ¬ IsRefused result
  pub cause : HasResumeCause out.faults out.faults' result

-- Writes what follows the printed lines of a run with this report.
pub record PutsTail {T : Type 0} (program : Program) (report : Report) (out : Change) (result : Result T ResumeStop) : Type 0 where
  pub all :
      OnOk result (TakesAll out (tail_text report.end
      (cut (records_of program.heads) report.records) report.subthreads report.journal.restarts report.unused))
  pub part : TakesPart out (tail_text report.end
      (cut (records_of program.heads) report.records) report.subthreads report.journal.restarts report.unused)
  pub told : ¬ IsRefused result
  pub cause : HasResumeCause out.faults out.faults' result

module _ (program : Program) (inputs : Inputs) (limits : Limits) (bytes : List ℕ) (out : Change) where
  -- The text that is still to come was written, or a part of it; nothing, where the log is refused. The answer is the status.
  pub record Resumes (result : Result ℕ ResumeStop) : Type 0 where
    pub log : AnswersLog program inputs limits bytes result
    pub unread : HasNoRows program inputs limits bytes → IsUntouched out
    pub status : IfOk result (λ status. (rows : List Retirement) → IsLogOf program inputs limits bytes rows
        → status ≡ end_status (rest.end program inputs limits rows))
    pub all : OnOk result ((rows : List Retirement) → IsLogOf program inputs limits bytes rows
        → TakesAll out (rest.text program inputs limits rows))
    pub part : (rows : List Retirement) → IsLogOf program inputs limits bytes rows → TakesPart out (rest.text program inputs limits rows)
    pub cause : IfErr result (λ stop. stop ≡ WriteFault → Fails out)

-- how a call ends that stopped so, where the log has this file
abbrev pub StopsSo : (file : Name) → ResumeStop → (err : Change) → (status : ℕ) → Type 0
StopsSo file (LogLine number) err status =
    (refusal : Refusal) × IsInputRefused (input_line file 7 number) refusal × RefusalEnds err refusal status
StopsSo file (LogFit number) err status =
    (refusal : Refusal) × IsInputRefused (input_line file 8 number) refusal × RefusalEnds err refusal status
StopsSo file WriteFault err status = LineEnds 8 write_line err status
StopsSo file OutOfMemory err status = LineEnds 1 memory_line err status

-- and one whose text was written, or which stopped
abbrev pub EndsSo : (file : Name) → Result ℕ ResumeStop → (err : Change) → (status : ℕ) → Type 0
EndsSo file (Ok due) err status = (status ≡ due) × (err.written' ≡ err.written)
EndsSo file (Err stop) err status = StopsSo file stop err status

-- how a call ends that went on with a run that was halted, by what was written of it
pub record EndsRest (halted : Halted) (out err : Change) (status : ℕ) : Type 0 where
  pub put : Result ℕ ResumeStop
  pub resumes : Resumes (request_program halted.request) halted.request.inputs halted.request.asked.limits halted.text out put
  pub ends : EndsSo halted.log put err status
