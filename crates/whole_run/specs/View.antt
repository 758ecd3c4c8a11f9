-- What contracts see of an engine, and what that means.
use Rattle.std.specs.Prelude.{◌≡◌, ℕ, ℤ, Bool, true, List, [], ◌∷◌, ◌++◌, take, flat_map, Option, Some, None, is_some, IfSome, slice_get}
use Rattle.gp_base.specs.declared.limits.Limits.{Limits}
use Rattle.gp_base.specs.declared.feed.Inputs.{Inputs}
use Rattle.gp_base.specs.declared.fault.Fault.{Fault}
use Rattle.gp_base.specs.declared.ending.End.{End}
use Rattle.gp_base.specs.declared.journal.Event.{Event}
use Rattle.gp_base.specs.declared.journal.Event.TheVariants as event
use Rattle.task_ast.specs.meaning.Tree.{Program}
use Rattle.task_ast.specs.meaning.State.{State}
use Rattle.task_ast.specs.meaning.Layout.{layout}
use Rattle.task_ast.specs.Fold.{fold}
use Rattle.task_ast.specs.meaning.Plain.{Subthread}
use Rattle.task_ast.specs.Plain.{order, opening, end}
use Rattle.dependence.specs.meaning.Conflict.{clash_in}
use Rattle.dependence.specs.meaning.Restarts.{Dependence}
use Rattle.dependence.specs.meaning.Journal.{Stage, stage, Lawful}
use Rattle.dependence.specs.Runs.{lock_feet_of}
use Rattle.dependence.specs.Posting.{OutReady}
use Rattle.dependence.specs.Standing.{AreShort}
use Rattle.dependence.specs.RunBuffer.{members_at}
use Rattle.subthread.specs.declared.task.Work.{Work}
use Rattle.whole_run.specs.declared.recovery.Recovery.{Recovery}
use Rattle.whole_run.specs.Recovering.{recovering}
use Rattle.whole_run.specs.declared.calls.Halt.{Halt}
use Rattle.whole_run.specs.declared.calls.Halt.TheVariants as halt
use Rattle.subthread.specs.Tasks.{program_in as program_of, under_of, Suits}

-- what is run: the work that its tasks share, how it recovers from faults, the values at its start, its limits, and the
-- faults that strike it
pub record Batch : Type 0 where
  pub work : Work
  pub recovery : Recovery
  pub inputs : Inputs
  pub limits : Limits
  pub faults : List Fault

-- an engine: its batch, the events so far, and why nothing is issued at this front, where that is known
pub record View : Type 0 where
  pub batch : Batch
  pub events : List Event
  pub ended : Option Halt

module _ (batch : Batch) where
  abbrev pub program_in : Program
  program_in = program_of batch.work

  -- the subthreads of the plain run, in order
  abbrev pub run_in : List Subthread
  run_in = order program_in batch.inputs batch.limits

  abbrev pub dependence_in : Dependence
  dependence_in = recovering batch.recovery run_in

  -- whether two positions are in conflict by the locks that they hold
  abbrev pub locks_in : (position later : ℕ) → Bool
  locks_in = clash_in (lock_feet_of run_in)

  -- how the plain run ends
  abbrev pub end_in : End
  end_in = end program_in batch.inputs batch.limits

  -- the state that the plain run begins with
  abbrev pub start_in : State
  start_in = (opening program_in batch.inputs batch.limits).state

  -- the record cells under each lock cell
  abbrev pub under_in : List (List ℕ)
  under_in = under_of batch.work

-- the lines of a subthread of the plain run, if it is there
abbrev pub lines_of : Option Subthread → List (List ℤ)
lines_of None = []
lines_of (Some s) = s.lines

-- the lines of the plain run at a position
abbrev pub lines_at : Batch → (position : ℕ) → List (List ℤ)
lines_at batch p = lines_of (slice_get (run_in batch) p)

-- the lines of the plain run before a position
abbrev pub lines_below : Batch → (position : ℕ) → List (List ℤ)
lines_below batch p = flat_map (λ (s : Subthread). s.lines) (take p (run_in batch))

-- the stage that the events lead to
abbrev pub now : View → Stage
now view = stage (dependence_in view.batch) view.batch.faults view.events

-- what the store holds: the fold of what is applied
abbrev pub state_in : View → State
state_in view =
    fold (members_at (run_in view.batch) view.batch.faults (now view)) (start_in view.batch) (now view).applied (now view).progress.front

abbrev pub is_known : View → Bool
is_known view = is_some view.ended

-- a halt that is known is so until the next issue
abbrev pub ended_after : Event → Option Halt → Option Halt
ended_after (event.Issue p) ended = None
ended_after _ ended = ended

-- with one event more
abbrev pub grown : View → Event → View
grown view event = record { batch = view.batch; events = view.events ++ event ∷ []; ended = ended_after event view.ended }

-- with its halt known
abbrev pub learnt : Halt → View → View
learnt halts view = record { batch = view.batch; events = view.events; ended = Some halts }

-- the run ends there, as the plain run does, or a settle comes next
abbrev pub IsHalt : Batch → (front : ℕ) → Halt → Type 0
IsHalt batch front (halt.Ended ending) = (front ≡ (dependence_in batch).count) × (ending ≡ end_in batch)
IsHalt batch front halt.Settling = (dependence_in batch).settles front ≡ true

-- no event was made
abbrev pub begun : Batch → View
begun batch = record { batch = batch; events = []; ended = None }

-- what stands between two calls: the work, the inputs and the limits suit one another, the journal is lawful, before
-- what is out all that is in conflict with it by locks is applied, and a halt that is known is one
pub record Stands (view : View) : Type 0 where
  pub suits : Suits view.batch.work (layout (program_in view.batch).heads) view.batch.inputs view.batch.limits
  pub short : AreShort view.batch.faults
  pub lawful : Lawful (dependence_in view.batch) view.batch.faults view.events
  pub ready : OutReady (locks_in view.batch) (now view)
  pub ended : IfSome view.ended (IsHalt view.batch (now view).progress.front)
