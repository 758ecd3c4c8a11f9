-- What a run that rolls back holds through its journal: the fold of what is applied, and copies of it at cuts. What it leaves is what the
-- plain run leaves.
use Rattle.std.specs.Prelude.{◌≡◌, ℕ, ◌≤◌, ◌<◌, ℤ, Bool, true, false, List, [], ◌∷◌, Option, Some, None, slice_get, ⊤}
use Rattle.gp_base.specs.declared.limits.Limits.{Limits}
use Rattle.gp_base.specs.declared.feed.Inputs.{Inputs}
use Rattle.gp_base.specs.declared.fault.Fault.{Fault}
use Rattle.gp_base.specs.declared.journal.Event.{Event}
use Rattle.gp_base.specs.declared.journal.Event.TheVariants as event
use Rattle.task_ast.specs.meaning.Tree.{Program}
use Rattle.task_ast.specs.meaning.State.{State}
use Rattle.task_ast.specs.meaning.Effect.{after}
use Rattle.task_ast.specs.Fold.{fold}
use Rattle.task_ast.specs.meaning.Plain.{Subthread}
use Rattle.task_ast.specs.Plain.{order, opening, last_state}
use Rattle.task_ast.specs.Position.{before}
use Rattle.dependence.specs.meaning.Conflict.{foot_at}
use Rattle.dependence.specs.Conflict.{ClashIn}
use Rattle.dependence.specs.meaning.Restarts.{struck_next}
use Rattle.dependence.specs.meaning.Journal.{Stage, initial_stage, MayRetire, Allowed, Lawful, Complete, happens, stage}
use Rattle.dependence.specs.meaning.Runs.{feet_of, dependence_of}
use Rattle.dependence.specs.Standing.{AreShort}
use Rattle.dependence.specs.Histories.{HasCells}
use Rattle.dependence.specs.Touching.{Agree, MayTouch, done_by, own_location}
use Rattle.dependence.specs.Insertion.{ClosedBefore}
use Rattle.dependence.specs.Removal.{done_in}
use Rattle.dependence.specs.Buffer.{with_at}
use Rattle.dependence.specs.RunBuffer.{members_at, IsOut}
use Rattle.rollback.specs.meaning.Cuts.{cut_at, rolling_of}
use Rattle.rollback.specs.Cuts.{SettlesCut}
use Rattle.rollback.specs.Standing.{BlocksStand}

-- the data, and the lines of each position that is applied
pub record Held : Type 0 where
  pub state : State
  pub lines : ℕ → List (List ℤ)

-- nothing is applied before the first event
abbrev pub initial_held : State → Held
initial_held start = record { state = start; lines = λ p. [] }

module _ (run : List Subthread) (faults : List Fault) (start : State) where
  -- the fold of what is applied before a position
  abbrev pub state_before : Stage → (position : ℕ) → State
  state_before at p = fold (members_at run faults at) start at.applied p

  -- the data are the fold of what is applied, and the lines those that each position prints in it; with a position, each earlier one in
  -- conflict with it is applied
  pub record HeldStands (at : Stage) (held : Held) : Type 0 where
    pub state_is : held.state ≡ state_before at at.progress.front
    pub lines_are : (p : ℕ) → at.retired ≤ p → at.applied p ≡ true
        → held.lines p ≡ (done_in (members_at run faults at) start at.applied p).prints
    pub closed : ClosedBefore (ClashIn (feet_of run)) at.applied
    pub below : (p : ℕ) → at.applied p ≡ true → p < at.progress.front

  -- a copy at a cut: all before it is applied, and the copy is the fold of that
  pub record IsCopy (at : Stage) (cut : ℕ) (copy : State) : Type 0 where
    pub state_is : copy ≡ state_before at cut
    pub whole : (q : ℕ) → q < cut → at.applied q ≡ true

  module _ (cuts : ℕ → Bool) where
    -- a rollback goes back to what was applied before the cut
    abbrev pub held_restarted : Stage → Option ℕ → Held → Held
    held_restarted at None held = held
    held_restarted at (Some p) held = record held { state = state_before at (cut_at cuts p) }

    -- a result that applies does what its attempt does; issues, posts and retirements leave all as it is
    abbrev pub held_happens : Stage → Event → Held → Held
    held_happens at (event.Take p attempt true) held =
        let done = done_by (members_at run faults at p) held.state in
        record { state = after done held.state; lines = with_at held.lines p done.prints }
    held_happens at (event.Restart number) held = held_restarted at (struck_next (rolling_of cuts run) faults at.progress) held
    held_happens at _ held = held

    -- after these events
    abbrev pub held_from : Stage → List Event → Held → Held
    held_from at [] held = held
    held_from at (e ∷ rest) held = held_from (happens (rolling_of cuts run) faults at e) rest (held_happens at e held)

    abbrev pub held_after : List Event → Held
    held_after events = held_from initial_stage events (initial_held start)

-- the event is no rollback to before the cut
abbrev pub StaysBehind : (cuts : ℕ → Bool) → List Subthread → List Fault → (cut : ℕ) → Stage → Event → Type 0
StaysBehind cuts run faults cut at (event.Restart number) =
    (struck : ℕ) → struck_next (rolling_of cuts run) faults at.progress ≡ Some struck → cut ≤ cut_at cuts struck
StaysBehind cuts run faults cut at _ = ⊤

-- it stands before the first event
abbrev pub InitialHeldLaw : Type 0
InitialHeldLaw =
    (run : List Subthread) (faults : List Fault) (start : State) → HeldStands run faults start initial_stage (initial_held start)

-- and after each event that is allowed
abbrev pub HeldEventLaw : Type 0
HeldEventLaw =
    (run : List Subthread) (faults : List Fault) (start : State) (cuts : ℕ → Bool) (at : Stage) (e : Event) (held : Held)
    → HasCells start → BlocksStand cuts (dependence_of run) faults at → HeldStands run faults start at held
    → Allowed (rolling_of cuts run) faults at e
    → HeldStands run faults start (happens (rolling_of cuts run) faults at e) (held_happens run faults start cuts at e held)

-- and so after a journal that is lawful by blocks
abbrev pub HeldJournalLaw : Type 0
HeldJournalLaw =
    (run : List Subthread) (faults : List Fault) (start : State) (cuts : ℕ → Bool) (events : List Event)
    → HasCells start → SettlesCut cuts (dependence_of run) → AreShort faults → Lawful (rolling_of cuts run) faults events
    → HeldStands run faults start (stage (rolling_of cuts run) faults events) (held_after run faults start cuts events)

-- what an attempt that is out finds stays as it is while it is out
abbrev pub OutLaw : Type 0
OutLaw =
    (run : List Subthread) (faults : List Fault) (start : State) (cuts : ℕ → Bool) (at : Stage) (e : Event) (held : Held) (p attempt : ℕ)
    → HasCells start → BlocksStand cuts (dependence_of run) faults at → HeldStands run faults start at held
    → Allowed (rolling_of cuts run) faults at e → IsOut at p attempt
    → IsOut (happens (rolling_of cuts run) faults at e) p attempt
    → Agree (MayTouch own_location (foot_at (feet_of run) p)) (held_happens run faults start cuts at e held).state held.state

-- where all before a cut is applied, and nothing else, the data are a copy at the cut
abbrev pub CopyLaw : Type 0
CopyLaw =
    (run : List Subthread) (faults : List Fault) (start : State) (at : Stage) (held : Held) (cut : ℕ) → HeldStands run faults start at held
    → ((q : ℕ) → q < cut → at.applied q ≡ true) → ((q : ℕ) → cut ≤ q → at.applied q ≡ false)
    → IsCopy run faults start at cut held.state

-- a copy stays one, until a rollback goes back to before it
abbrev pub KeepsCopyLaw : Type 0
KeepsCopyLaw =
    (run : List Subthread) (faults : List Fault) (start : State) (cuts : ℕ → Bool) (at : Stage) (e : Event) (cut : ℕ) (copy : State)
    → BlocksStand cuts (dependence_of run) faults at → Allowed (rolling_of cuts run) faults at e
    → StaysBehind cuts run faults cut at e → IsCopy run faults start at cut copy
    → IsCopy run faults start (happens (rolling_of cuts run) faults at e) cut copy

-- a rollback goes back to the copy at its cut; where nothing from the cut on is applied, it leaves the data as they are
abbrev pub BackLaw : Type 0
BackLaw =
    (run : List Subthread) (faults : List Fault) (start : State) (cuts : ℕ → Bool) (at : Stage) (held : Held) (struck : ℕ)
    → let back = (held_restarted run faults start cuts at (Some struck) held).state in
    ((copy : State) → IsCopy run faults start at (cut_at cuts struck) copy → back ≡ copy)
    × (HeldStands run faults start at held → cut_at cuts struck ≤ at.progress.front
    → ((q : ℕ) → cut_at cuts struck ≤ q → at.applied q ≡ false) → back ≡ held.state)

-- the lines of a position that may retire are those of the plain run
abbrev pub LinesLaw : Type 0
LinesLaw =
    (program : Program) (inputs : Inputs) (limits : Limits) (faults : List Fault) (cuts : ℕ → Bool) (at : Stage) (held : Held)
    (p : ℕ) (s : Subthread)
    → let run = order program inputs limits in
    AreShort faults → BlocksStand cuts (dependence_of run) faults at → HeldStands run faults (opening program inputs limits).state at held
    → MayRetire (rolling_of cuts run) faults at p → slice_get run p ≡ Some s → held.lines p ≡ s.lines

-- where all that was issued has retired, the data are those of the plain run before the front
abbrev pub DrainedLaw : Type 0
DrainedLaw =
    (program : Program) (inputs : Inputs) (limits : Limits) (faults : List Fault) (cuts : ℕ → Bool) (at : Stage) (held : Held)
    → let run = order program inputs limits in
    BlocksStand cuts (dependence_of run) faults at → HeldStands run faults (opening program inputs limits).state at held
    → at.retired ≡ at.progress.front → held.state ≡ (before program inputs limits at.progress.front).state

-- a complete journal leaves the data of the plain run
abbrev pub FinalLaw : Type 0
FinalLaw =
    (program : Program) (inputs : Inputs) (limits : Limits) (faults : List Fault) (cuts : ℕ → Bool) (events : List Event)
    → let run = order program inputs limits in
    SettlesCut cuts (dependence_of run) → AreShort faults → Complete (rolling_of cuts run) faults events
    → (held_after run faults (opening program inputs limits).state cuts events).state ≡ (last_state program inputs limits).state
