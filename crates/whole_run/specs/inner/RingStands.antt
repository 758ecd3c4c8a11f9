-- How an engine's thread table and its threads' places stand to the plain run.
use Rattle.std.specs.Prelude.{◌≡◌, ◌≢◌, ℕ, ◌<◌, List, [], ◌∷◌, ◌++◌, length, Option, Some, None, slice_get}
use Rattle.task_ast.specs.declared.sync.SyncOp.{SyncOp}
use Rattle.task_ast.specs.declared.sync.SyncOp.TheVariants as sync
use Rattle.task_ast.specs.declared.sync.Next.{Next}
use Rattle.task_ast.specs.meaning.Control.{Point}
use Rattle.task_ast.specs.Table.{Table, next_of, last_in}
use Rattle.task_ast.specs.laws.Standing.{Stands}
use Rattle.task_ast.specs.meaning.Plain.{start_point, task_at}
use Rattle.task_ast.specs.Plain.{Plain}
use Rattle.task_ast.specs.Position.{before, point_in, from_in}
use Rattle.dependence.specs.meaning.Journal.{Stage, WasTaken}
use Rattle.whole_run.specs.View.{Batch, program_in}

-- the plain run before a position
abbrev pub plain_before : Batch → (position : ℕ) → Plain
plain_before batch p = before (program_in batch) batch.inputs batch.limits p

-- where a thread stands before a position
abbrev pub point_before : Batch → (position thread : ℕ) → Point
point_before batch p t = point_in (program_in batch) batch.inputs batch.limits (plain_before batch p) t

-- where a thread begins so at a position
abbrev pub from_before : Batch → (position : ℕ) → SyncOp → (thread : ℕ) → Point
from_before batch p op t = from_in (program_in batch) batch.inputs batch.limits (plain_before batch p) op t

-- a next synchronisation is unknown exactly where no attempt of its thread's last subthread was taken
pub record IsLearnt (at : Stage) (table : Table) : Type 0 where
  pub unknown : (t : ℕ) → t < length table.seats → next_of table t ≡ None → (q : ℕ) × (last_in table t ≡ Some q) × (¬ WasTaken at q)
  pub known : (t q : ℕ) → last_in table t ≡ Some q → next_of table t ≢ None → WasTaken at q

module _ (batch : Batch) {Place : Type 0} (IsPlace : (thread : ℕ) → SyncOp → Place → Point → Type 0) where
  -- the table knows less than the plain run's at the front, and each thread whose next synchronisation is known has its place
  pub record RingStands (at : Stage) (table : Table) (places : List Place) : Type 0 where
    pub stands : Stands (program_in batch) batch.inputs batch.limits at.progress.front table
    pub learnt : IsLearnt at table
    pub places_are : length places ≡ length table.seats
    pub place_is : (t : ℕ) (place : Place) (next : Next) → slice_get places t ≡ Some place → next_of table t ≡ Some next
        → IsPlace t next.sync place (point_before batch at.progress.front t)

  -- the start of a fork's child, which is thread n
  abbrev pub StartIs : (n : ℕ) → SyncOp → Option Place → Type 0
  StartIs n (sync.Fork task arguments) (Some place) = IsPlace n sync.Start place (start_point (task_at (program_in batch) task) n arguments)
  StartIs n (sync.Fork task arguments) None = ⊥
  StartIs n _ start = start ≡ None

-- the places of all threads, with that of a child
abbrev pub places_after : {Place : Type 0} → List Place → Option Place → List Place
places_after places None = places
places_after places (Some place) = places ++ place ∷ []
