-- What the fold of what is applied comes to, whichever way a run recovers.
use Rattle.std.proofs.Common.{◌≡◌, ℕ, List, refl, sym, ◌∙◌}
use Rattle.gp_base.specs.declared.limits.Limits.{Limits}
use Rattle.gp_base.specs.declared.feed.Inputs.{Inputs}
use Rattle.gp_base.specs.declared.fault.Fault.{Fault}
use Rattle.gp_base.specs.declared.journal.Event.{Event}
use Rattle.task_ast.specs.meaning.Tree.{Program}
use Rattle.task_ast.specs.meaning.State.{State}
use Rattle.task_ast.specs.Fold.{fold}
use Rattle.task_ast.specs.meaning.Plain.{Subthread}
use Rattle.task_ast.specs.Plain.{order, opening, last_state}
use Rattle.task_ast.specs.Position.{before}
use Rattle.dependence.specs.meaning.Journal.{Stage, initial_stage, stage, Lawful, Complete}
use Rattle.dependence.specs.meaning.Runs.{dependence_of}
use Rattle.dependence.specs.Standing.{AreShort}
use Rattle.dependence.specs.Histories.{HasCells}
use Rattle.dependence.specs.RunBuffer.{members_at, buffer_after}
use Rattle.dependence.proofs.RunBuffers.{after-events, drained-state, final-state}
use Rattle.rollback.specs.meaning.Cuts.{cuts_of, rolling_of}
use Rattle.rollback.specs.Standing.{BlocksStand}
use Rattle.rollback.specs.States.{HeldStands, held_after}
use Rattle.rollback.proofs.Backs.{settle-cuts}
use Rattle.rollback.proofs.Standing.{initial-blocks, blocks-from}
use Rattle.rollback.proofs.States.{journal-held, drained-held, final-held}
use Rattle.whole_run.specs.declared.recovery.Recovery.{Recovery}
use Rattle.whole_run.specs.declared.recovery.Recovery.TheVariants.{Selective, Rollback}
use Rattle.whole_run.specs.Recovering.{recovering}

module _ (run : List Subthread) (faults : List Fault) where
  -- the fold of what is applied at a stage
  abbrev pub folded : State → Stage → State
  folded start at = fold (members_at run faults at) start at.applied at.progress.front

  module _ (short : AreShort faults) (every : ℕ) (events : List Event)
      (lawful : Lawful (recovering (Rollback every) run) faults events) where
    -- where all is rolled back, the blocks stand
    pub blocks-after : BlocksStand (cuts_of every run) (dependence_of run) faults (stage (rolling_of (cuts_of every run) run) faults events)
    blocks-after =
        blocks-from (cuts_of every run) (dependence_of run) faults (settle-cuts every (dependence_of run)) short initial_stage events
        (initial-blocks (cuts_of every run) (dependence_of run) faults) lawful

    -- and so does what the run holds
    pub held-stands : (start : State) → HasCells start
        → HeldStands run faults start (stage (rolling_of (cuts_of every run) run) faults events)
        (held_after run faults start (cuts_of every run) events)
    held-stands start cells =
        journal-held run faults start (cuts_of every run) cells (settle-cuts every (dependence_of run)) short events lawful

module _ (program : Program) (inputs : Inputs) (limits : Limits) (faults : List Fault) (short : AreShort faults) where
  abbrev run : List Subthread
  run = order program inputs limits

  abbrev start : State
  start = (opening program inputs limits).state

  -- where all that was issued has retired, it is the state of the plain run before the front
  pub drained-fold : (recovery : Recovery) (events : List Event) → Lawful (recovering recovery run) faults events
      → let at = stage (recovering recovery run) faults events in
      at.retired ≡ at.progress.front → folded run faults start at ≡ (before program inputs limits at.progress.front).state
  drained-fold Selective events lawful all =
      let both = after-events run faults start (λ c. refl) short events lawful in
      sym both.1.state_is
      ∙ drained-state program inputs limits faults (stage (dependence_of run) faults events) (buffer_after run faults start events) both.0
      both.1 all
  drained-fold (Rollback every) events lawful all =
      let stands = held-stands run faults short every events lawful start (λ c. refl) in
      sym stands.state_is
      ∙ drained-held program inputs limits faults (cuts_of every run) (stage (rolling_of (cuts_of every run) run) faults events)
      (held_after run faults start (cuts_of every run) events) (blocks-after run faults short every events lawful) stands all

  -- after a complete journal it is the last state of the plain run
  pub last-fold : (recovery : Recovery) (events : List Event) → Complete (recovering recovery run) faults events
      → folded run faults start (stage (recovering recovery run) faults events) ≡ (last_state program inputs limits).state
  last-fold Selective events complete =
      sym (after-events run faults start (λ c. refl) short events complete.lawful).1.state_is
      ∙ final-state program inputs limits faults short events complete
  last-fold (Rollback every) events complete =
      sym (held-stands run faults short every events complete.lawful start (λ c. refl)).state_is
      ∙ final-held program inputs limits faults (cuts_of every run) short (settle-cuts every (dependence_of run)) events complete
