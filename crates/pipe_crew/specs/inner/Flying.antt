-- The boards of a crew of lasting threads.
use Rattle.std.specs.Prelude.{◌≡◌, ℕ, ◌++◌, Bool, false, List, [], Option, None, Some, IfSome, All}
use Rattle.std.specs.List.{flat_map}
use Rattle.subthread.specs.declared.task.Work.{Work}
use Rattle.subthread.specs.declared.task.Task.{Task}
use Rattle.crew.specs.State.{CrewState}
use Rattle.pipe_crew.specs.declared.flight.Flight.{Flight}
use Rattle.pipe_crew.specs.inner.Flights.{IsFlight, left_in}

-- the tasks whose runs were not taken off the board that is first, if there is one
abbrev pub left_first : Option Flight → List Task
left_first None = []
left_first (Some flight) = left_in flight

-- and off all boards
abbrev pub left_all : Option Flight → List Flight → List Task
left_all first behind = left_first first ++ flat_map left_in behind

-- all boards are in flight, each with at most so many passes, and none is after where none is first, unless memory ran out
pub record AreFlying (work : Work) (most : ℕ) (failed : Bool) (first : Option Flight) (behind : List Flight) : Type 0 where
  pub first_flies : IfSome first (IsFlight work most)
  pub behind_fly : All (IsFlight work most) behind
  pub none : failed ≡ false → first ≡ None → behind ≡ []

-- the work and the list of posts stay
abbrev pub KeepsPosts : CrewState → CrewState → Type 0
KeepsPosts before after = (after.work ≡ before.work) × (after.posted ≡ before.posted)
