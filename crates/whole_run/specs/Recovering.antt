-- What is read of a run, by the way in which it recovers.
use Rattle.std.specs.Prelude.{◌≤◌, ⊤, List}
use Rattle.task_ast.specs.meaning.Plain.{Subthread}
use Rattle.dependence.specs.meaning.Restarts.{Dependence}
use Rattle.dependence.specs.meaning.Runs.{dependence_of}
use Rattle.rollback.specs.meaning.Cuts.{cuts_of, rolling_of}
use Rattle.whole_run.specs.declared.recovery.Recovery.{Recovery}
use Rattle.whole_run.specs.declared.recovery.Recovery.TheVariants.{Selective, Rollback}

-- what is read of a run that recovers so
abbrev pub recovered : Recovery → List Subthread → Dependence
recovered Selective run = dependence_of run
recovered (Rollback every) run = rolling_of (cuts_of every run) run

-- and the same, where what is so in both ways can be read without asking which it is
abbrev pub recovering : Recovery → List Subthread → Dependence
recovering recovery run =
    record (dependence_of run) {
      clash = (recovered recovery run).clash;
      redo = (recovered recovery run).redo;
      block = (recovered recovery run).block;
    }

-- there are cuts to roll back to
abbrev pub HasCuts : Recovery → Type 0
HasCuts Selective = ⊤
HasCuts (Rollback every) = 1 ≤ every
