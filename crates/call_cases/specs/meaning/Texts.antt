-- The text of a run.
use Rattle.std.specs.Prelude.{ℕ, ℤ, ◌-◌, List, ◌++◌, length, codes}
use Rattle.gp_base.specs.declared.ending.End.{End}
use Rattle.gp_base.specs.declared.journal.Restart.{Restart}
use Rattle.restart_log.specs.meaning.Lines.{printed}
use Rattle.restart_log.specs.meaning.Tail as tail
use Rattle.restart_log.specs.meaning.Soak as soak
use Rattle.command_line.specs.declared.asked.Soak.{Soak}

-- how a run went: what it printed, how it ended, the cells of all records, each record by its name with its cells, and
-- the number of its subthreads
pub record Ran : Type 0 where
  pub lines : List (List ℤ)
  pub end : End
  pub cells : List ℤ
  pub records : List (List ℕ × List ℤ)
  pub subthreads : ℕ

-- what follows the printed lines of a run that went so, with these restarts, where so many faults were asked for
abbrev pub run_tail : Ran → List Restart → ℕ → List ℕ
run_tail ran restarts faults = tail.tail_text ran.end ran.records ran.subthreads restarts (faults - length restarts)

-- the text of such a run
abbrev pub run_text : Ran → List Restart → ℕ → List ℕ
run_text ran restarts faults = codes "output\n" ++ (printed ran.lines ++ run_tail ran restarts faults)

-- the summary of such a run of a batch that the program made
abbrev pub run_soak : Soak → Ran → List Restart → ℕ → List ℕ
run_soak batch ran restarts faults =
    soak.soak_text batch.moves batch.start ran.end ran.cells ran.subthreads restarts (faults - length restarts)
