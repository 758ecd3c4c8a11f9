-- What the journal of a call says of the run that the call made.
use Rattle.std.specs.Prelude.{◌≡◌, ◌⊎◌, ℕ, suc, List, ◌++◌, length, take, flat_map, codes, count_by}
use Rattle.gp_base.specs.declared.journal.Journal.{Journal}
use Rattle.gp_base.specs.declared.journal.Restart.{Restart}
use Rattle.task_ast.specs.meaning.Plain.{Subthread}
use Rattle.task_ast.specs.meaning.Run.{plain_order}
use Rattle.dependence.specs.meaning.Restarts.{Dependence}
use Rattle.dependence.specs.meaning.Journal.{stage, Lawful, Complete}
use Rattle.dependence.specs.meaning.Runs.{dependence_of}
use Rattle.dependence.specs.meaning.Counts.{is_restart}
use Rattle.command_line.specs.declared.asked.Command.{Command}
use Rattle.command_line.specs.declared.asked.Command.TheVariants as command
use Rattle.call_cases.specs.meaning.Work.{ToDo}
use Rattle.call_cases.specs.meaning.Recovering.{recovering_by}
use Rattle.call_cases.specs.meaning.PlainText.{restarts_in}
use Rattle.restart_log.specs.meaning.Lines.{printed}
use Rattle.call_cases.specs.meaning.Answers.{Change, TakesAll, TakesPart, TakesNothing}

-- the subthreads of the plain run, and what they say of dependence
unfoldable pub run_of : ToDo → List Subthread
run_of work = plain_order work.program work.inputs work.limits

unfoldable pub dependence_for : ToDo → Dependence
dependence_for work = dependence_of (run_of work)

-- what is read of them where the run recovers as its command does
unfoldable pub recovering_for : ToDo → Dependence
recovering_for work = recovering_by work.command (run_of work)

-- The journal is lawful for the run and the faults. Its restarts are the first of all restarts, as many as its events make.
pub record IsJournalOf (work : ToDo) (journal : Journal) : Type 0 where
  pub lawful : Lawful (recovering_by work.command (run_of work)) work.faults journal.events
  pub first : (rest : List Restart) × (restarts_in work ≡ journal.restarts ++ rest)
  pub counted : length journal.restarts ≡ count_by is_restart journal.events

-- every subthread was issued and has retired, and all restarts were made
abbrev pub IsCompleteOf : ToDo → Journal → Type 0
IsCompleteOf work journal = Complete (recovering_by work.command (run_of work)) work.faults journal.events

-- how many subthreads have retired
abbrev pub retired_in : ToDo → Journal → ℕ
retired_in work journal = (stage (recovering_for work) work.faults journal.events).retired

-- the first line, and the lines of the subthreads before a position
abbrev pub lines_before : ToDo → ℕ → List ℕ
lines_before work p = codes "output\n" ++ printed (flat_map (λ (s : Subthread). s.lines) (take p (run_of work)))

-- the output holds all lines of those that have retired, where some have
abbrev pub HoldsRetired : ToDo → Journal → Change → Type 0
HoldsRetired work journal out =
    (retired_in work journal ≡ 0) ⊎ (rest : List ℕ) × TakesAll out (lines_before work (retired_in work journal) ++ rest)

-- the output holds all lines of those that have retired, and nothing past those of the next one before the journal is
-- complete; a batch that the program makes writes nothing before
abbrev pub TakesRetiredFor : Command → ToDo → Journal → Change → Type 0
TakesRetiredFor (command.Soak soak) work journal out = IsCompleteOf work journal ⊎ TakesNothing out
TakesRetiredFor other work journal out =
    HoldsRetired work journal out × (IsCompleteOf work journal ⊎ TakesPart out (lines_before work (suc (retired_in work journal))))

abbrev pub TakesRetired : ToDo → Journal → Change → Type 0
TakesRetired work journal out = TakesRetiredFor work.command work journal out
