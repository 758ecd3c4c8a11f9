-- Boards in flight: what the calling thread keeps of a board that is worked.
use Rattle.std.specs.Prelude.{◌≡◌, ℕ, ◌-◌, ◌<◌, ◌≤◌, List, [], ◌∷◌, drop, length, All, Contains, Result}
use Rattle.std.specs.Arc.{arc_value}
use Rattle.std.specs.declared.alloc.AllocFailed.{AllocFailed}
use Rattle.desk_board.specs.Held.{about, hand, book, IsPassOf, IsClerkOf}
use Rattle.subthread.specs.declared.task.Work.{Work}
use Rattle.subthread.specs.declared.task.Task.{Task}
use Rattle.subthread.specs.declared.task.Done.{Done}
use Rattle.subthread.specs.Tasks.{Answers}
use Rattle.pipe_crew.specs.declared.flight.Flight.{Flight}

-- the tasks whose runs were not taken
abbrev pub left_in : Flight → List Task
left_in flight = drop flight.taken (about (arc_value flight.board)).jobs

-- pass and clerk are of the board, the pass holds no desk, and only desks below the oldest one were taken
pub record Stands (flight : Flight) : Type 0 where
  pub pass : IsPassOf (arc_value flight.board) flight.pass
  pub idle : (hand flight.pass).held ≡ []
  pub clerk : IsClerkOf (arc_value flight.board) flight.clerk
  pub taken : All (λ desk. desk < flight.taken) (book flight.clerk).taken
  pub within : flight.taken ≤ length (about (arc_value flight.board)).jobs

-- how many passes a board in flight has: each that went to a thread took one of the 64 shares, and the calling thread's has the rest
abbrev pub passes_of : Flight → ℕ
passes_of flight = 65 - (hand flight.pass).share

-- a board in flight, under this work, with at most so many passes, of which some run was not taken
pub record IsFlight (work : Work) (most : ℕ) (flight : Flight) : Type 0 where
  pub stands : Stands flight
  pub with : (about (arc_value flight.board)).with ≡ work
  pub few : passes_of flight ≤ most
  pub some : flight.taken < length (about (arc_value flight.board)).jobs

-- the oldest run that was not taken is back
abbrev pub IsBack : Flight → Type 0
IsBack flight = Contains (book flight.clerk).seen flight.taken

-- the answer is that of a run of the oldest task under the work, and the others are left
pub record GivesOldest (work : Work) (before after : List Task) (answer : Result Done (AllocFailed Task)) : Type 0 where
  pub task : Task
  pub before_is : before ≡ task ∷ after
  pub answers : Answers work task answer
