-- The soundness of the check over whole runs: each subthread names only record cells under the locks that it holds.
use Rattle.std.specs.Prelude.{◌≡◌, ◌≢◌, ◌⊎◌, ℕ, ⊤, true, ◌<◌, List, [], ◌∷◌, Option, Some, length, slice_get}
use Rattle.gp_base.specs.declared.limits.Limits.{Limits}
use Rattle.gp_base.specs.declared.feed.Inputs.{Inputs}
use Rattle.task_ast.specs.declared.sync.SyncOp.TheVariants as sync
use Rattle.task_ast.specs.declared.sync.Next.{Next}
use Rattle.task_ast.specs.meaning.Tree.{statements, TaskText, Program}
use Rattle.task_ast.specs.meaning.Names.{locks_of, cells_in}
use Rattle.task_ast.specs.meaning.Body.{Stop, spent}
use Rattle.task_ast.specs.meaning.Control.{Setting, Point, step}
use Rattle.task_ast.specs.meaning.Layout.{layout}
use Rattle.task_ast.specs.Shaped.{IsAccepted}
use Rattle.task_ast.specs.Under.{KeepsToLocks, NamesHeld}
use Rattle.task_ast.specs.meaning.Repeat.{Goes}
use Rattle.task_ast.specs.Table.{next_of, is_known_end, owner_in}
use Rattle.task_ast.specs.meaning.Plain.{Subthread}
use Rattle.task_ast.specs.Plain.{Plain, opening, move, order, setting}
use Rattle.task_ast.specs.Position.{before, point_in}
use Rattle.lock_checker.specs.WalkLaw.{Holding, Comes}

-- each holding passes
abbrev pub Each : (Holding → Type 0) → List Holding → Type 0
Each P [] = ⊤
Each P (h ∷ held) = P h × Each P held

-- the thread owns the lock cell of the holding
abbrev pub IsOwned : List (Option ℕ) → (thread : ℕ) → Holding → Type 0
IsOwned owners t h = owner_in owners h.cell ≡ Some t

-- holdings of one lock cell are of one pair
abbrev pub Apart : List Holding → Type 0
Apart held = Each (λ h. Each (λ k. h.cell ≡ k.cell → h.pair ≡ k.pair) held) held

-- one of the holdings is of this lock cell
abbrev pub HasCell : List Holding → (lock : ℕ) → Type 0
HasCell [] lock = ⊥
HasCell (h ∷ held) lock = (h.cell ≡ lock) ⊎ HasCell held lock

-- the thread came to its point from the start of a task, and owns exactly the locks of what it locked and did not unlock
pub record ThreadHolds (s : Setting) (owners : List (Option ℕ)) (t : ℕ) (p : Point) : Type 0 where
  pub number : ℕ
  pub task : TaskText
  pub is_task : slice_get s.program.tasks number ≡ Some task
  pub start : Point
  pub starts : start.left ≡ statements task.body
  pub held : List Holding
  pub comes : Comes s start p held
  pub owned : Each (IsOwned owners t) held
  pub all : (lock : ℕ) → owner_in owners lock ≡ Some t → HasCell held lock
  pub apart : Apart held

-- what comes next at a point: its start, the synchronisation before which its body stopped, or an end of its loop turns
pub data IsAhead (s : Setting) (p : Point) (next : Next) : Type 0 where
  at_start : next.sync ≡ sync.Start → IsAhead s p next
  at_stop : step s p ≡ Stop next → IsAhead s p next
  at_limit : next ≡ spent → IsAhead s p next

module _ (program : Program) (inputs : Inputs) (limits : Limits) where
  -- each thread holds its locks, and stands where its last body left it; nothing is said of the data
  pub record LocksStand (x : Plain) : Type 0 where
    pub points : length x.points ≡ length x.table.seats
    pub owners : length x.table.owners ≡ cells_in (locks_of program.heads)
    pub owned : (lock t : ℕ) → owner_in x.table.owners lock ≡ Some t → t < length x.table.seats
    pub threads : (t : ℕ) → t < length x.table.seats
        → ThreadHolds (setting program inputs limits) x.table.owners t (point_in program inputs limits x t)
    pub ahead : (t : ℕ) (next : Next) → t < length x.table.seats → next_of x.table t ≡ Some next
        → IsAhead (setting program inputs limits) (point_in program inputs limits x t) next

-- at the opening of an accepted program the locks stand so
abbrev pub HeldFirstLaw : Type 0
HeldFirstLaw =
    (program : Program) (inputs : Inputs) (limits : Limits) → IsAccepted program
    → LocksStand program inputs limits (opening program inputs limits)

-- each move from any state in which they stand so, whatever the data, is by a subthread that keeps to its locks, and they
-- stand so after it
abbrev pub HeldMoveLaw : Type 0
HeldMoveLaw =
    (program : Program) (inputs : Inputs) (limits : Limits) → IsAccepted program
    → (x : Plain) (s : Subthread) (y : Plain) → LocksStand program inputs limits x → move program inputs limits x ≡ Goes s y
    → KeepsToLocks (layout program.heads).under s × LocksStand program inputs limits y

-- where they stand so, a thread that has ended owns no lock
abbrev pub EndedLaw : Type 0
EndedLaw =
    (program : Program) (inputs : Inputs) (limits : Limits) → IsAccepted program
    → (x : Plain) → LocksStand program inputs limits x
    → (t : ℕ) → is_known_end (next_of x.table t) ≡ true → (lock : ℕ) → owner_in x.table.owners lock ≢ Some t

-- so they stand before each position of the plain run
abbrev pub HeldBeforeLaw : Type 0
HeldBeforeLaw =
    (program : Program) (inputs : Inputs) (limits : Limits) → IsAccepted program
    → (p : ℕ) → LocksStand program inputs limits (before program inputs limits p)

-- and each subthread of its order names only record cells under the lock cells that it holds
abbrev pub SoundLaw : Type 0
SoundLaw =
    (program : Program) (inputs : Inputs) (limits : Limits) → IsAccepted program
    → NamesHeld (layout program.heads).under (order program inputs limits)
