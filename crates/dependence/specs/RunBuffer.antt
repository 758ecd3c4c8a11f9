-- The history buffer of a run through its journal: what a run with threads, restarts and faults leaves is what the plain run leaves.
use Rattle.std.specs.Prelude.{◌≡◌, ℕ, true, List, [], ◌∷◌, Contains, Option, Some, None, slice_get}
use Rattle.gp_base.specs.declared.limits.Limits.{Limits}
use Rattle.gp_base.specs.declared.feed.Inputs.{Inputs}
use Rattle.gp_base.specs.declared.fault.Fault.{Fault}
use Rattle.gp_base.specs.declared.journal.Event.{Event}
use Rattle.gp_base.specs.declared.journal.Event.TheVariants as event
use Rattle.task_ast.specs.meaning.Tree.{Program}
use Rattle.task_ast.specs.meaning.State.{State}
use Rattle.task_ast.specs.meaning.Plain.{Subthread}
use Rattle.task_ast.specs.Plain.{order, opening, last_state}
use Rattle.task_ast.specs.Position.{before}
use Rattle.task_ast.specs.Fold.{Member}
use Rattle.task_ast.specs.Members.{member_in}
use Rattle.dependence.specs.meaning.Conflict.{foot_at}
use Rattle.dependence.specs.Conflict.{ClashIn}
use Rattle.dependence.specs.meaning.Dependents.{is_member}
use Rattle.dependence.specs.meaning.Restarts.{struck_next}
use Rattle.dependence.specs.Restarts.{mask_now}
use Rattle.dependence.specs.meaning.Journal.{Stage, initial_stage, Allowed, happens, MayRetire, Lawful, Complete, stage}
use Rattle.dependence.specs.meaning.Runs.{feet_of, dependence_of}
use Rattle.dependence.specs.Standing.{present, AreShort, StageStands}
use Rattle.dependence.specs.Histories.{HasCells}
use Rattle.dependence.specs.Touching.{Agree, MayTouch, done_by, own_location}
use Rattle.dependence.specs.Buffer.{Buffer, BufferStands, buffer_with, buffer_without}

-- each position of the run with the mask of its present attempt
abbrev pub members_at : List Subthread → List Fault → Stage → ℕ → Member
members_at run faults at = member_in run (mask_now faults at.progress.made)

-- at this stage the buffer holds the fold of what is applied, and the histories and the lines of what has not retired
abbrev pub RunStands : List Subthread → List Fault → State → Stage → Buffer → Type 0
RunStands run faults start at buffer =
    BufferStands (ClashIn (feet_of run)) (members_at run faults at) start at.applied at.retired at.progress.front buffer

-- before the first event
abbrev pub initial_buffer : State → Buffer
initial_buffer start = record { state = start; histories = λ p. None; lines = λ p. [] }

-- a restart undoes what it redoes
abbrev pub buffer_restarted : List Subthread → Stage → Option ℕ → Buffer → Buffer
buffer_restarted run at None buffer = buffer
buffer_restarted run at (Some p) buffer =
    buffer_without (λ q. is_member q ((dependence_of run).redo p at.progress.front)) at.progress.front buffer

-- a result that applies does what its attempt does; issues, posts and retirements leave the buffer as it is
abbrev pub buffer_happens : List Subthread → List Fault → Stage → Event → Buffer → Buffer
buffer_happens run faults at (event.Take p attempt true) buffer = buffer_with p (done_by (members_at run faults at p) buffer.state) buffer
buffer_happens run faults at (event.Restart number) buffer =
    buffer_restarted run at (struck_next (dependence_of run) faults at.progress) buffer
buffer_happens run faults at _ buffer = buffer

-- the buffer after these events
abbrev pub buffer_from : List Subthread → List Fault → Stage → List Event → Buffer → Buffer
buffer_from run faults at [] buffer = buffer
buffer_from run faults at (e ∷ rest) buffer =
    buffer_from run faults (happens (dependence_of run) faults at e) rest (buffer_happens run faults at e buffer)

abbrev pub buffer_after : List Subthread → List Fault → State → List Event → Buffer
buffer_after run faults start events = buffer_from run faults initial_stage events (initial_buffer start)

-- an attempt that is out: it was posted, it was not taken, and it is the present one
pub record IsOut (at : Stage) (p attempt : ℕ) : Type 0 where
  pub posted : Contains at.posted (p, attempt)
  pub untaken : ¬ Contains at.taken (p, attempt)
  pub present : attempt ≡ present at p

-- the buffer stands after each lawful event
abbrev pub RunEventLaw : Type 0
RunEventLaw =
    (run : List Subthread) (faults : List Fault) (start : State) (at : Stage) (e : Event) (buffer : Buffer)
    → HasCells start → StageStands (dependence_of run) faults at → RunStands run faults start at buffer
    → Allowed (dependence_of run) faults at e
    → RunStands run faults start (happens (dependence_of run) faults at e) (buffer_happens run faults at e buffer)

-- what an attempt that is out finds stays as it is while it is out
abbrev pub OutLaw : Type 0
OutLaw =
    (run : List Subthread) (faults : List Fault) (start : State) (at : Stage) (e : Event) (buffer : Buffer) (p attempt : ℕ)
    → HasCells start → StageStands (dependence_of run) faults at → RunStands run faults start at buffer
    → Allowed (dependence_of run) faults at e → IsOut at p attempt → IsOut (happens (dependence_of run) faults at e) p attempt
    → Agree (MayTouch own_location (foot_at (feet_of run) p)) (buffer_happens run faults at e buffer).state buffer.state

-- after a lawful journal the buffer stands
abbrev pub RunBufferLaw : Type 0
RunBufferLaw =
    (run : List Subthread) (faults : List Fault) (start : State) (events : List Event)
    → HasCells start → AreShort faults → Lawful (dependence_of run) faults events
    → RunStands run faults start (stage (dependence_of run) faults events) (buffer_after run faults start events)

-- the lines of a position that may retire are those of the plain run
abbrev pub RetiredLinesLaw : Type 0
RetiredLinesLaw =
    (program : Program) (inputs : Inputs) (limits : Limits) (faults : List Fault) (at : Stage) (buffer : Buffer) (p : ℕ) (s : Subthread)
    → let run = order program inputs limits in
    AreShort faults → StageStands (dependence_of run) faults at → RunStands run faults (opening program inputs limits).state at buffer
    → MayRetire (dependence_of run) faults at p → slice_get run p ≡ Some s → buffer.lines p ≡ s.lines

-- where all that was issued has retired, the buffer holds the state of the plain run before the front
abbrev pub DrainedStateLaw : Type 0
DrainedStateLaw =
    (program : Program) (inputs : Inputs) (limits : Limits) (faults : List Fault) (at : Stage) (buffer : Buffer)
    → let run = order program inputs limits in
    StageStands (dependence_of run) faults at → RunStands run faults (opening program inputs limits).state at buffer
    → at.retired ≡ at.progress.front → buffer.state ≡ (before program inputs limits at.progress.front).state

-- a complete journal leaves the state of the plain run
abbrev pub FinalStateLaw : Type 0
FinalStateLaw =
    (program : Program) (inputs : Inputs) (limits : Limits) (faults : List Fault) (events : List Event)
    → let run = order program inputs limits in
    AreShort faults → Complete (dependence_of run) faults events
    → (buffer_after run faults (opening program inputs limits).state events).state ≡ (last_state program inputs limits).state
