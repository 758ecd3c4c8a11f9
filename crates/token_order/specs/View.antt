-- How the fields stand for the thread table.
use Rattle.std.specs.Prelude.{ℕ, Bool, ◌<◌, ◌≤◌, ⊤, cond, length, map, Option, Some, None, is_none}
use Rattle.gp_base.specs.declared.limits.TheConstants.{MOST_THREADS}
use Rattle.task_ast.specs.Table.{Seat, Table, next_of, last_in}
use Rattle.task_ast.specs.meaning.Table.{Stand, Away, Waits, Released}
use Rattle.ended_seats.specs.Idle.{Walks}
use Rattle.token_order.specs.declared.threads.Stand.{Stand as StandHere}
use Rattle.token_order.specs.declared.threads.Stand.TheVariants as stands
use Rattle.token_order.specs.declared.threads.Seat.{Seat as SeatHere}
use Rattle.token_order.specs.declared.threads.Threads.{Threads}

-- the table of the threads, room for how many more there is, and whether the next issue may begin with a settle
pub record Roomy : Type 0 where
  pub table : Table
  pub spare : ℕ
  pub cleared : Bool

abbrev pub stand_view : StandHere → Stand
stand_view stands.Away = Away
stand_view stands.Waits = Waits
stand_view stands.Released = Released

abbrev pub seat_of : SeatHere → Seat
seat_of seat = record { next = seat.next; last = seat.last; passed = seat.passed; stand = stand_view seat.stand }

-- the thread table that the fields are
abbrev pub table : Threads → Table
table threads =
    record {
      limit = threads.limit;
      barriers = threads.barriers.items;
      seats = map seat_of threads.seats.items;
      owners = threads.owners.items;
      token = threads.token;
      issued = threads.issued;
    }

abbrev pub IsBelow : ℕ → Option ℕ → Type 0
IsBelow n None = ⊤
IsBelow n (Some t) = t < n

-- at which thread a walk goes on that comes to this one
abbrev pub onward_of : SeatHere → ℕ
onward_of seat = seat.onward

-- walks may go by the fields
abbrev pub WalksStand : Threads → Type 0
WalksStand threads =
    Walks (map onward_of threads.seats.items) threads.passed.first threads.passed.last threads.waits (map seat_of threads.seats.items)

-- there are at most as many threads as may exist, the thread whose turn was last is one of them, locks have numbers of
-- 32 bits, and walks may go by the fields
pub record StandsInside (threads : Threads) : Type 0 where
  pub few : length threads.seats.items ≤ MOST_THREADS
  pub token : IsBelow (length threads.seats.items) threads.token
  pub locks : length threads.owners.items ≤ 4294967295
  pub walks : WalksStand threads

-- from which position a thread's next synchronisation is awaited
abbrev pub awaited : Table → ℕ → Option ℕ
awaited table t = cond (is_none (next_of table t)) (last_in table t) None
