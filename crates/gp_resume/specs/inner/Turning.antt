-- How a subthread begins whose turn it was.
use Rattle.std.specs.Prelude.{◌≡◌, ℕ, ◌+◌, ℤ, List, [], ◌∷◌, ◌++◌, length, map, Option, Some, None, slice_get, slice_set}
use Rattle.task_ast.specs.declared.sync.SyncOp.{SyncOp}
use Rattle.task_ast.specs.declared.sync.SyncOp.TheVariants as sync
use Rattle.task_ast.specs.declared.sync.Next.{Next}
use Rattle.task_ast.specs.meaning.State.{State, RegistersOf, number_at}
use Rattle.task_ast.specs.Table.{owned}
use Rattle.task_ast.specs.laws.Standing.{PassesTo}
use Rattle.task_ast.specs.Plain.{Machine, points_with}
use Rattle.task_code.specs.Reading.{Place}
use Rattle.record_store.specs.Stored.{state_of}
use Rattle.subthread.specs.declared.task.Work.{Work}
use Rattle.subthread.specs.Tasks.{machine_of}
use Rattle.gp_resume.specs.declared.course.Spot.{Spot}
use Rattle.gp_resume.specs.declared.course.Course.{Course}
use Rattle.gp_resume.specs.declared.course.Begun.{Begun}
use Rattle.gp_resume.specs.inner.Course.{spot_place}

-- the place at which a fork's child starts, where so many threads exist
abbrev pub start_with : Machine Place → SyncOp → (threads : ℕ) → Option Place
start_with machine (sync.Fork task arguments) n = Some (machine.starts task n arguments)
start_with machine _ n = None

-- the place at which a settle has set its variable to the value that the state has
abbrev pub settled_place : SyncOp → (thread : ℕ) → State → Place → Place
settled_place (sync.Settle register control) t state place =
    record place { ctl = slice_set place.ctl control (number_at (state (RegistersOf t)) register) }
settled_place _ t state place = place

-- the registers of all threads, with those of a fork's child, of which there are none yet
abbrev pub threads_with : SyncOp → List (List ℤ) → List (List ℤ)
threads_with (sync.Fork task arguments) threads = threads ++ [] ∷ []
threads_with _ threads = threads

-- the child of a fork was added, at its start; else nothing was
pub record HasChild (work : Work) (before now : Course) (op : SyncOp) : Type 0 where
  pub ring : now.ring ≡ before.ring
  pub points : map spot_place now.spots.items
      ≡ points_with (machine_of work) op (length before.spots.items) (map spot_place before.spots.items)
  pub store : now.store ≡ record before.store { threads = threads_with op before.store.threads }
  pub issued : now.issued ≡ before.issued

-- a subthread of this thread begins, whose turn it was
pub record IsIssued (work : Work) (before now : Course) (t : ℕ) (begins : Next) (child : Option ℕ) (begun : Begun) : Type 0 where
  pub pos : begun.pos ≡ before.issued
  pub thread : begun.thread ≡ t
  pub begins_so : begun.begins ≡ begins
  pub child_is : begun.child ≡ child
  pub held : begun.held ≡ owned before.ring.table t
  pub spot : (spot : Spot) → slice_get before.spots.items t ≡ Some spot
      → spot_place begun.spot ≡ settled_place begins.sync t (state_of before.store) (spot_place spot)
  pub ring : now.ring ≡ before.ring
  pub points : map spot_place now.spots.items
      ≡ points_with (machine_of work) begins.sync (length before.spots.items) (map spot_place before.spots.items)
  pub store : now.store ≡ record before.store { threads = threads_with begins.sync before.store.threads }
  pub issued : now.issued ≡ before.issued + 1

-- what turns that pass keep of a course
pub record KeepsTurning (before now : Course) : Type 0 where
  pub passed : PassesTo before.ring.table now.ring.table
  pub spots : now.spots.items ≡ before.spots.items
  pub store : now.store ≡ before.store
  pub issued : now.issued ≡ before.issued
