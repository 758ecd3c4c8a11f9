-- What holds of a run's order, journals and stages, whichever way it recovers.
use Rattle.std.proofs.Common.{◌≡◌, List, [], ◌∷◌, ◌++◌}
use Rattle.gp_base.specs.declared.fault.Fault.{Fault}
use Rattle.gp_base.specs.declared.journal.Event.{Event}
use Rattle.gp_base.specs.declared.journal.Restart.{Restart}
use Rattle.task_ast.specs.meaning.Plain.{Subthread}
use Rattle.dependence.specs.meaning.Conflict.{clash_in}
use Rattle.dependence.specs.Dependents.{itself}
use Rattle.dependence.specs.meaning.Restarts.{restarts}
use Rattle.dependence.specs.Restarts.{RedoesStruck}
use Rattle.dependence.specs.meaning.Journal.{Stage, initial_stage, Allowed, Lawful, Complete, happens, stage}
use Rattle.dependence.specs.Standing.{AreShort, RedoesConflicts, StageStands, KeepsRetired, NamesIssued}
use Rattle.dependence.specs.meaning.Runs.{feet_of, dependence_of}
use Rattle.dependence.proofs.DependentSets.{dependents-are}
use Rattle.dependence.proofs.IssuedPositions.{initial-issued, issued-from}
use Rattle.dependence.proofs.Standing as selective
use Rattle.dependence.proofs.Journals as selective_journals
use Rattle.rollback.specs.meaning.Cuts.{cuts_of}
use Rattle.rollback.proofs.Backs.{settle-cuts, rolls-struck, rolls-conflicts}
use Rattle.rollback.proofs.Standing as blocks
use Rattle.rollback.proofs.Journals as blocks_journals
use Rattle.rollback.proofs.Driving.{happens-driving, driving-journal}
use Rattle.whole_run.specs.declared.recovery.Recovery.{Recovery}
use Rattle.whole_run.specs.declared.recovery.Recovery.TheVariants.{Selective, Rollback}
use Rattle.whole_run.specs.Recovering.{recovering, HasCuts}
use Rattle.whole_run.specs.inner.Backed.{StandsBy}

module _ (run : List Subthread) where
  pub redoes-struck : (recovery : Recovery) → RedoesStruck (recovering recovery run)
  redoes-struck Selective = λ struck front l. (dependents-are (clash_in (feet_of run)) struck front struck).1 (itself l)
  redoes-struck (Rollback every) = rolls-struck (cuts_of every run) (dependence_of run)

  pub redoes-conflicts : (recovery : Recovery) → RedoesConflicts (recovering recovery run)
  redoes-conflicts Selective = selective.run-redoes run
  redoes-conflicts (Rollback every) = rolls-conflicts (cuts_of every run) (dependence_of run)

  module _ (faults : List Fault) where
    pub lawful-push : (recovery : Recovery) (events : List Event) (e : Event) → Lawful (recovering recovery run) faults events
        → Allowed (recovering recovery run) faults (stage (recovering recovery run) faults events) e
        → Lawful (recovering recovery run) faults (events ++ e ∷ [])
    lawful-push recovery events e lawful allowed =
        selective_journals.LawfulFrom-push (recovering recovery run) faults initial_stage events e lawful allowed

    -- what stands after a lawful journal
    pub names-after : (recovery : Recovery) (events : List Event) → Lawful (recovering recovery run) faults events
        → NamesIssued (stage (recovering recovery run) faults events)
    names-after recovery events lawful =
        issued-from (recovering recovery run) (redoes-conflicts recovery) faults initial_stage events lawful initial-issued

    module _ (short : AreShort faults) where
      pub stands-after : (recovery : Recovery) (events : List Event) → HasCuts recovery → Lawful (recovering recovery run) faults events
          → StandsBy run faults recovery (stage (recovering recovery run) faults events)
      stands-after Selective events cuts lawful = selective.run-stands run faults events short lawful
      stands-after (Rollback every) events cuts lawful = (
        blocks.blocks-from (cuts_of every run) (dependence_of run) faults (settle-cuts every (dependence_of run)) short initial_stage
            events (blocks.initial-blocks (cuts_of every run) (dependence_of run) faults) lawful,
        driving-journal (cuts_of every run) (dependence_of run) faults events lawful,
        cuts,
      )

      -- an event that is allowed keeps it
      pub stands-then : (recovery : Recovery) (at : Stage) (e : Event) → StandsBy run faults recovery at
          → Allowed (recovering recovery run) faults at e → StandsBy run faults recovery (happens (recovering recovery run) faults at e)
      stands-then Selective at e stands allowed =
          selective.happens-stands (dependence_of run) (selective.run-redoes run) faults short at e
          (selective.keeps-retired (dependence_of run) faults at (selective.run-later run) stands) stands allowed
      stands-then (Rollback every) at e stands allowed = (
        blocks.happens-blocks (cuts_of every run) (dependence_of run) faults (settle-cuts every (dependence_of run)) short at e stands.0
            allowed,
        happens-driving (cuts_of every run) (dependence_of run) faults at e stands.1 allowed,
        stands.2,
      )

      -- the restarts of a journal are the first of all, and those of a complete one are all
      pub restarts-first : (recovery : Recovery) (events : List Event) → Lawful (recovering recovery run) faults events
          → (rest : List Restart)
          × (restarts (recovering recovery run) faults ≡ (stage (recovering recovery run) faults events).progress.made ++ rest)
      restarts-first Selective events lawful =
          selective_journals.restarts-first (dependence_of run) faults (selective.run-clean run faults short) events lawful
      restarts-first (Rollback every) events lawful =
          blocks_journals.rollbacks-first (cuts_of every run) (dependence_of run) faults
          (settle-cuts every (dependence_of run)) short events
          lawful

      pub restarts-all : (recovery : Recovery) (events : List Event) → Complete (recovering recovery run) faults events
          → (stage (recovering recovery run) faults events).progress.made ≡ restarts (recovering recovery run) faults
      restarts-all Selective events complete =
          selective_journals.restarts-all (dependence_of run) faults (selective.run-clean run faults short) events complete
      restarts-all (Rollback every) events complete =
          blocks_journals.rollbacks-all (cuts_of every run) (dependence_of run) faults (settle-cuts every (dependence_of run)) short events
          complete

    pub stage-of : (recovery : Recovery) (at : Stage) → StandsBy run faults recovery at → StageStands (recovering recovery run) faults at
    stage-of Selective at stands = stands
    stage-of (Rollback every) at stands = stands.0.stands

    pub keeps-retired : (recovery : Recovery) (at : Stage) → StandsBy run faults recovery at
        → KeepsRetired (recovering recovery run) faults at
    keeps-retired Selective at stands = selective.keeps-retired (dependence_of run) faults at (selective.run-later run) stands
    keeps-retired (Rollback every) at stands = blocks.keeps-retired (cuts_of every run) (dependence_of run) faults at stands.0
