-- The table of the code as the thread table that definitions see.
use Rattle.std.specs.Prelude.{◌≡◌, ℕ, zero, suc, true, ◌≤◌, length, map, Option, Some, None, nat_lt}
use Rattle.task_ast.specs.meaning.Repeat.{Again, More, Done}
use Rattle.task_ast.specs.meaning.Table as meaning
use Rattle.task_ast.specs.Table as plain
use Rattle.task_ast.specs.Turn as there
use Rattle.ended_seats.specs.Idle.{Walks}
use Rattle.one_thread.specs.declared.seats.Stand.{Stand}
use Rattle.one_thread.specs.declared.seats.Stand.TheVariants as stands
use Rattle.one_thread.specs.declared.seats.Seat.{Seat}
use Rattle.one_thread.specs.declared.seats.Table.{Table}
use Rattle.one_thread.specs.declared.turns.Turn.{Turn}
use Rattle.one_thread.specs.declared.turns.Turn.TheVariants as here
use Rattle.one_thread.specs.inner.Sleeping.{SleepOver}

abbrev pub stand_view : Stand → meaning.Stand
stand_view stands.Away = meaning.Away
stand_view stands.Waits = meaning.Waits
stand_view stands.Released = meaning.Released

abbrev pub seat_of : Seat → plain.Seat
seat_of seat = record { next = seat.next; last = seat.last; passed = seat.passed; stand = stand_view seat.stand }

-- whose turn was last, where the token looks first at this thread
abbrev pub token_of : (start : ℕ) → Option ℕ
token_of zero = None
token_of (suc t) = Some t

abbrev pub table_of : Table → plain.Table
table_of table =
    record {
      limit = table.limit;
      barriers = table.barriers.items;
      seats = map seat_of table.seats.items;
      owners = table.owners.owners.items;
      token = token_of table.start;
      issued = table.issued;
    }

-- at which thread a walk goes on that comes to this one
abbrev pub onward_of : Seat → ℕ
onward_of seat = seat.onward

-- walks may go by the fields, and the token looks first at none beyond all threads
pub record WalksStand (table : Table) : Type 0 where
  pub walks : Walks (map onward_of table.seats.items) table.passed.first table.passed.last table.waits (map seat_of table.seats.items)
  pub start : table.start ≤ length table.seats.items
  pub sleep : SleepOver table.ways.items (map seat_of table.seats.items)

-- what a turn gave, where the table stands so afterwards
abbrev pub gives : Turn → plain.Table → Again plain.Table there.Turn
gives (here.Issue t next child) after = Done (there.Issue t next child after)
gives here.Pass after = More after
gives (here.Needs t) after = Done (there.Needs t)
gives (here.Ended e) after = Done (there.Ended e)

-- what turns gave up to the first that did not pass
abbrev pub gave : Turn → plain.Table → there.Turn
gave (here.Issue t next child) after = there.Issue t next child after
gave here.Pass after = there.Needs 0
gave (here.Needs t) after = there.Needs t
gave (here.Ended e) after = there.Ended e

-- the turn is none that passes, and a subthread that it begins is of a thread that is there
abbrev pub Halts : Turn → (threads : ℕ) → Type 0
Halts (here.Issue t next child) threads = nat_lt t threads ≡ true
Halts here.Pass threads = ⊥
Halts (here.Needs t) threads = Unit {0}
Halts (here.Ended e) threads = Unit {0}
