-- Tasks of the plain run, and what their runs give.
use Rattle.std.specs.Prelude.{◌≡◌, ℕ, Some, slice_get}
use Rattle.gp_base.specs.declared.limits.Limits.{Limits}
use Rattle.gp_base.specs.declared.feed.Inputs.{Inputs}
use Rattle.task_ast.specs.declared.layout.Layout.{Layout}
use Rattle.task_ast.specs.meaning.State.{State}
use Rattle.task_ast.specs.meaning.Effect.{effect, effect_on}
use Rattle.task_ast.specs.Damage.{damaged}
use Rattle.task_ast.specs.meaning.Plain.{Subthread, foot_of}
use Rattle.task_ast.specs.Plain.{order}
use Rattle.task_ast.specs.Position.{before, from_in, body_at}
use Rattle.task_ast.specs.SyncOps.{joined_by}
use Rattle.record_store.specs.Given.{given_of, found_of}
use Rattle.task_code.specs.Relation.{Rests}
use Rattle.subthread.specs.declared.task.Work.{Work}
use Rattle.subthread.specs.declared.task.Task.{Task}
use Rattle.subthread.specs.declared.task.Done.{Done}
use Rattle.subthread.specs.Tasks.{task_of, effect_of, place_of, place_left, program_in, under_of, IsRun, Fits, Suits}

module _ (work : Work) (inputs : Inputs) (limits : Limits) where
  -- the task is one of the plain run's subthread at a position: its thread begins so, has these locks, and stands where the
  -- subthread's thread begins, after what a settle sets
  pub record IsTaskOf (p : ℕ) (s : Subthread) (task : Task) : Type 0 where
    pub position : slice_get (order (program_in work) inputs limits) p ≡ Some s
    pub thread : task.thread ≡ s.thread
    pub begins : task.begins ≡ s.begins
    pub child : task.child ≡ s.child
    pub held : task.held ≡ s.held
    pub place : Rests (program_in work) s.begins.sync
        (from_in (program_in work) inputs limits (before (program_in work) inputs limits p) s.begins.sync s.thread) (place_of task)

  -- the task was given what its subthread finds in a state
  abbrev pub IsGiven : Task → State → Type 0
  IsGiven task state = task.given ≡ given_of (under_of work) state task.thread (joined_by task.begins.sync) task.held

  -- what a run of such a task leaves: what comes next, the place and the footprint are the subthread's; the effect is what the subthread's
  -- actions do on what was given, and on a state where that was what it finds there
  pub record Runs (p : ℕ) (s : Subthread) (done : Done) : Type 0 where
    pub next : done.next ≡ (body_at (program_in work) inputs limits p s).next
    pub place : Rests (program_in work) (body_at (program_in work) inputs limits p s).next.sync
        (body_at (program_in work) inputs limits p s).at (place_left done)
    pub given : effect_of work done ≡ damaged (task_of work done).mask
        (effect_on s.thread s.child s.actions (found_of (under_of work) (task_of work done).given))
    pub on : (state : State) → IsGiven (task_of work done) state
        → effect_of work done ≡ damaged (task_of work done).mask (effect s.thread s.begins.sync s.child s.actions state)
    pub foot : done.foot ≡ foot_of s

-- a run of a task of the plain run does what the task's subthread does
abbrev pub RunsLaw : Type 0
RunsLaw =
    (work : Work) (cells : Layout) (inputs : Inputs) (limits : Limits) → Suits work cells inputs limits
    → (p : ℕ) (s : Subthread) (done : Done) → IsTaskOf work inputs limits p s (task_of work done) → IsRun work done
    → Runs work inputs limits p s done

-- a task of the plain run that was given what it finds in a state fits
abbrev pub FitsLaw : Type 0
FitsLaw =
    (work : Work) (cells : Layout) (inputs : Inputs) (limits : Limits) → Suits work cells inputs limits
    → (p : ℕ) (s : Subthread) (task : Task) (state : State)
    → IsTaskOf work inputs limits p s task → IsGiven work inputs limits task state → Fits work task
