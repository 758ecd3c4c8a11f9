-- The thread table, over which a token gives the subthreads their order, where some next synchronisations may be unknown.
use Rattle.std.specs.Prelude.{ℕ, Bool, false, ◌||◌, List, Option, Some, None, unwrap_or, slice_get, cond}
use Rattle.std.specs.List.{list_all}
use Rattle.task_ast.specs.declared.sync.Next.{Next}
use Rattle.task_ast.specs.meaning.Table.{is_end, Stand, Away, with_nth, meets, is_waiting, owned_from}
use Rattle.std.specs.Option.{option_and_then}
use Rattle.task_ast.specs.declared.sync.SyncOp.TheVariants as sync

-- one thread: its next synchronisation where that is known, the position of its last subthread, whether it has passed
-- since the last issue or arrival
pub record Seat : Type 0 where
  pub next : Option Next
  pub last : Option ℕ
  pub passed : Bool
  pub stand : Stand

-- the owner of each lock cell, and whose turn was last
pub record Table : Type 0 where
  pub limit : ℕ
  pub barriers : List ℕ
  pub seats : List Seat
  pub owners : List (Option ℕ)
  pub token : Option ℕ
  pub issued : ℕ

-- the next synchronisation of a thread, where it is known
abbrev pub next_of : Table → ℕ → Option Next
next_of table t = option_and_then (λ s. s.next) (slice_get table.seats t)

-- the position of a thread's last subthread, where it has one
abbrev pub last_in : Table → ℕ → Option ℕ
last_in table t = option_and_then (λ s. s.last) (slice_get table.seats t)

-- a thread after a change: it has not passed since
abbrev pub unpassed : Seat → Seat
unpassed seat = record seat { passed = false }

-- the table in which one thread's seat is changed
abbrev pub with_seat : Table → ℕ → (Seat → Seat) → Table
with_seat table t f = record table { seats = with_nth table.seats t f }

-- the next synchronisation of a thread becomes known
abbrev pub learning : Table → ℕ → Next → Table
learning table t next = with_seat table t (λ s. record s { next = Some next })

-- a thread that stands at its start
abbrev pub new_seat : Seat
new_seat = record { next = Some (record { sync = sync.Start; line = 0 }); last = None; passed = false; stand = Away }

-- whether the thread waits at this barrier
abbrev pub waits_at : ℕ → Seat → Bool
waits_at b seat = cond (is_waiting seat.stand) (meets b seat.next) false

-- the locks that a thread owns, in rising order
abbrev pub owned : Table → ℕ → List ℕ
owned table t = owned_from 0 table.owners t

-- whether a next synchronisation is known to be the end
abbrev pub is_known_end : Option Next → Bool
is_known_end None = false
is_known_end (Some next) = is_end next.sync

-- a thread has ended when its next synchronisation is known to be End
abbrev pub has_ended : Seat → Bool
has_ended seat = is_known_end seat.next

-- who owns a lock cell
abbrev pub owner_in : List (Option ℕ) → ℕ → Option ℕ
owner_in owners l = unwrap_or (slice_get owners l) None

-- every thread that has not ended has passed since the last issue or arrival
abbrev pub all_passed : Table → Bool
all_passed table = list_all (λ s. has_ended s || s.passed) table.seats
