-- Posting by the locks that are held: a post waits for every earlier position that is in conflict by locks.
use Rattle.std.specs.Prelude.{◌≡◌, ℕ, ◌<◌, Bool, true, ⊤, List, [], Some, slice_get}
use Rattle.gp_base.specs.declared.fault.Fault.{Fault}
use Rattle.gp_base.specs.declared.journal.Event.{Event}
use Rattle.gp_base.specs.declared.journal.Event.TheVariants as event
use Rattle.task_ast.specs.Under.{NamesHeld}
use Rattle.task_ast.specs.meaning.Plain.{Subthread}
use Rattle.dependence.specs.meaning.Conflict.{clash_in}
use Rattle.dependence.specs.meaning.Restarts.{Dependence}
use Rattle.dependence.specs.meaning.Journal.{Stage, Allowed, happens, MayPost}
use Rattle.dependence.specs.meaning.Runs.{feet_of, dependence_of}
use Rattle.dependence.specs.Runs.{lock_feet_of}
use Rattle.dependence.specs.Standing.{RedoesConflicts, StageStands}
use Rattle.dependence.specs.RunBuffer.{IsOut}
use Rattle.dependence.specs.Touching.{IsApart}

-- what is in conflict in the run is so by locks
abbrev pub IsWithin : (locks : ℕ → ℕ → Bool) → Dependence → Type 0
IsWithin locks dependence = (p q : ℕ) → dependence.clash p q ≡ true → locks p q ≡ true

-- the run as posting reads it
abbrev pub by_locks : (locks : ℕ → ℕ → Bool) → Dependence → Dependence
by_locks locks dependence = record dependence { clash = locks }

abbrev pub posting_of : List Subthread → Dependence
posting_of run = by_locks (clash_in (lock_feet_of run)) (dependence_of run)

-- before an attempt that is out, each position that is in conflict with it by locks is applied
abbrev pub OutReady : (locks : ℕ → ℕ → Bool) → Stage → Type 0
OutReady locks at = (p attempt q : ℕ) → IsOut at p attempt → q < p → locks q p ≡ true → at.applied q ≡ true

-- what an event needs for that: a post has waited by locks, and at a restart what is out is in conflict by locks only
-- where it is so in the run
abbrev pub KeepsReady : (locks : ℕ → ℕ → Bool) → Dependence → Stage → Event → Type 0
KeepsReady locks dependence at (event.Post p attempt) = MayPost (by_locks locks dependence) at p attempt
KeepsReady locks dependence at (event.Restart number) =
    (p attempt q : ℕ) → IsOut at p attempt → q < p → locks q p ≡ true → dependence.clash q p ≡ true
KeepsReady locks dependence at _ = ⊤

-- what may be posted by locks may be posted
abbrev pub PostLaw : Type 0
PostLaw =
    (dependence : Dependence) (locks : ℕ → ℕ → Bool) (at : Stage) (p attempt : ℕ) → IsWithin locks dependence
    → MayPost (by_locks locks dependence) at p attempt → MayPost dependence at p attempt

-- each event that is allowed keeps what is out ready by locks
abbrev pub OutReadyLaw : Type 0
OutReadyLaw =
    (dependence : Dependence) (locks : ℕ → ℕ → Bool) (faults : List Fault) (at : Stage) (e : Event) → RedoesConflicts dependence
    → StageStands dependence faults at → Allowed dependence faults at e → KeepsReady locks dependence at e → OutReady locks at
    → OutReady locks (happens dependence faults at e)

-- a run whose subthreads name only cells under the locks that they hold is so
abbrev pub RunWithinLaw : Type 0
RunWithinLaw =
    (under : List (List ℕ)) (run : List Subthread) → IsApart under → NamesHeld under run
    → IsWithin (clash_in (lock_feet_of run)) (dependence_of run)

-- with a subthread that holds no lock, a conflict by locks is one in the run
abbrev pub NoLocksLaw : Type 0
NoLocksLaw =
    (run : List Subthread) (p q : ℕ) (s : Subthread) → slice_get run p ≡ Some s → s.held ≡ []
    → clash_in (lock_feet_of run) q p ≡ true → clash_in (feet_of run) q p ≡ true
