-- The commands of `gprs_run`: `run`, `one`, `check` and `soak`, as one value of the record of promises.
use Rattle.std.specs.Prelude.{◌≡◌, ◌⊎◌, ℕ, Bool, true, [], List, Some, codes, length, if◌then◌else◌}
use Rattle.gp_base.specs.declared.ending.End.{End}
use Rattle.gp_base.specs.declared.ending.End.TheVariants.{Finished, Stuck, Spent}
use Rattle.gp_base.specs.declared.journal.Journal.{Journal}
use Rattle.task_ast.specs.meaning.Tree.{Name}
use Rattle.restart_log.specs.meaning.Trace.{trace_text}
use Rattle.command_line.specs.meaning.Words.{asked_by, asked_among}
use Rattle.command_line.specs.declared.asked.Command.{Command}
use Rattle.command_line.specs.declared.asked.Command.TheVariants.{One, Check, Soak}
use Rattle.command_line.specs.declared.asked.Asked.{Asked}
use Rattle.call_cases.specs.declared.lines.Tool.TheVariants.{Gprs}
use Rattle.call_cases.specs.meaning.Work.{ToDo, runs, makes_files, is_journalled}
use Rattle.call_cases.specs.meaning.InputFiles.{supplied_by}
use Rattle.call_cases.specs.meaning.SoakFiles.{files_of}
use Rattle.call_cases.specs.meaning.Texts.{run_text, run_soak}
use Rattle.call_cases.specs.meaning.PlainText.{plain_ran, restarts_in}
use Rattle.call_cases.specs.meaning.Journals.{IsJournalOf, IsCompleteOf, TakesRetired}
use Rattle.call_cases.specs.meaning.Commands.{Asking, Commands, Unlogged}

-- the status of a run that ends so
abbrev pub end_status : End → ℕ
end_status Finished = 0
end_status (Stuck why thread line) = 5
end_status (Spent position) = 6

-- the status of what is done: that of the plain run, and 0 for an accepted program that is only checked
abbrev pub work_status : Command → ToDo → ℕ
work_status command work = if runs command then end_status (plain_ran work).end else 0

-- the whole text was written: finished, stuck or spent
abbrev pub IsWhole : ℕ → Type 0
IsWhole status = (status ≡ 0) ⊎ (status ≡ 5) ⊎ (status ≡ 6)

-- what is written of it
abbrev pub work_text : Command → ToDo → List ℕ
work_text One work = run_text (plain_ran work) [] 0
work_text Check work = codes "ok\n"
work_text (Soak soak) work = run_soak soak (plain_ran work) (restarts_in work) (length work.faults)
work_text command work = run_text (plain_ran work) (restarts_in work) (length work.faults)

-- the trace of the journal, where one is asked for
abbrev pub trace_for : Asked → Journal → List ℕ
trace_for asked journal = if asked.trace then trace_text journal else []

-- A file that may be read for what the words ask for: the program's, that of the faults, and, where the program is run,
-- those that it names, which a shelf that does not tell its files leaves open.
pub data MayRead (asked : Asked) : Name → Type 0 where
  the_program : MayRead asked asked.program
  the_faults : {name : Name} → asked.faults ≡ Some name → MayRead asked name
  an_input : {name : Name} → runs asked.command ≡ true → MayRead asked name

-- what words ask for, and what that comes to by the files
abbrev pub asking : Asking Asked ToDo
asking =
    record {
      tool = Gprs;
      reading = asked_by;
      program = λ asked. asked.program;
      files = λ asked. files_of asked.command;
      supplies = λ asked program files case. case ≡ supplied_by asked program files;
    }

-- the promises
abbrev pub commands : Commands Asked ToDo
commands = record {
  asking = asking;
  may_read = MayRead;
  makes_files = λ asked. makes_files asked.command;
  is_journalled = λ asked. is_journalled asked.command;
  has_journal = λ work. is_journalled work.command;
  status = λ work. work_status work.command work;
  text = λ work. work_text work.command work;
  whole = IsWhole;
  error = λ asked status. trace_for asked;
  log = Unlogged;
  lawful = IsJournalOf;
  complete = IsCompleteOf;
  retired = TakesRetired;
}

-- the same by whether the call may wait for its workers: those of `gprs_run`, which does not, and of `gprs_run_pipe`, which does
abbrev pub asking_among : (waits : Bool) → Asking Asked ToDo
asking_among waits = record asking { reading = asked_among waits }

abbrev pub commands_among : (waits : Bool) → Commands Asked ToDo
commands_among waits = record commands { asking = asking_among waits }
