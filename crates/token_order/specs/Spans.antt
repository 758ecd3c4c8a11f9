-- Threads that can't go on, and a span of them that has passed in one step.
use Rattle.std.specs.Prelude.{◌≡◌, ◌⊎◌, ℕ, suc, ◌+◌, ◌-◌, ◌<◌, ◌≤◌, Bool, true, false, ◌&&◌, ◌||◌, cond, List, [], ◌∷◌, ◌++◌, length, nat_lt, nat_le, Option, Some, None, slice_get, unwrap_or}
use Rattle.std.specs.Option.{option_map}
use Rattle.task_ast.specs.declared.sync.SyncOp.{SyncOp}
use Rattle.task_ast.specs.declared.sync.SyncOp.TheVariants as sync
use Rattle.task_ast.specs.declared.sync.Next.{Next}
use Rattle.task_ast.specs.Table.{Seat, Table, has_ended}
use Rattle.task_ast.specs.Turn.{Look, To, Unknown, NoThread, look, stand_of, turn}
use Rattle.task_ast.specs.meaning.Repeat.{More}
use Rattle.task_ast.specs.meaning.Table.{is_waiting, numbers, ring}
use Rattle.task_ast.specs.meaning.Turn.{is_away}
use Rattle.token_order.specs.declared.spans.Span.{Span}
use Rattle.token_order.specs.declared.spans.Way.{Way}
use Rattle.token_order.specs.declared.rules.Turn.{Turn as TurnHere}
use Rattle.token_order.specs.declared.rules.Turn.TheVariants as here

-- turns that pass lead from a table to another
pub data Passes (before : Table) : Table → Type 0 where
  no_pass : Passes before before
  one_pass : {there after : Table} → Passes before there → turn there ≡ More after → Passes before after

abbrev pub is_barrier : SyncOp → Bool
is_barrier (sync.Barrier b) = true
is_barrier _ = false

abbrev pub stands_at_barrier : Option Next → Bool
stands_at_barrier None = false
stands_at_barrier (Some next) = is_barrier next.sync

-- whether a thread has ended, or waits at the barrier where it stands
abbrev pub is_stopped : Seat → Bool
is_stopped seat = cond (is_waiting seat.stand) (stands_at_barrier seat.next) (has_ended seat)

-- whether there is a thread of this number, and it is stopped
abbrev pub stopped_at : List Seat → ℕ → Bool
stopped_at seats t = unwrap_or (option_map is_stopped (slice_get seats t)) false

-- whether there is a thread of this number, and it has arrived and isn't released
abbrev pub waiting_at : List Seat → ℕ → Bool
waiting_at seats t = unwrap_or (option_map (λ s. is_waiting s.stand) (slice_get seats t)) false

-- each thread from one on is stopped up to the end of a way, and the last one before the place up to which all may pass waits
pub record StoppedOver (from : ℕ) (way : Way) (seats : List Seat) : Type 0 where
  pub each : (t : ℕ) → from ≤ t → t < way.to → stopped_at seats t ≡ true
  pub waits : from < way.past → waiting_at seats (way.past - 1) ≡ true
  pub within : from < way.past → way.past ≤ way.to

-- each way leads over stopped threads
abbrev pub WaysStand : (ways : List Way) → List Seat → Type 0
WaysStand ways seats = (t : ℕ) (way : Way) → slice_get ways t ≡ Some way → StoppedOver t way seats

-- whether the thread is in the span
abbrev pub covers : Span → ℕ → Bool
covers span t = (nat_le span.first t && nat_lt t span.past) || nat_lt t span.low

-- a seat whose thread has passed too where it waits and is in a span
abbrev pub shown_seat : Bool → Seat → Seat
shown_seat over seat = record seat { passed = seat.passed || (over && is_waiting seat.stand) }

-- the seats, where those that wait and are covered have passed
abbrev pub shown_by : (ℕ → Bool) → List Seat → List Seat
shown_by over [] = []
shown_by over (seat ∷ seats) = shown_seat (over 0) seat ∷ shown_by (λ t. over (suc t)) seats

-- the table in which the threads that wait and are in the span have passed
abbrev pub shown : Span → Table → Table
shown span table = record table { seats = shown_by (covers span) table.seats }

-- whether the thread that is found comes to a barrier
abbrev pub arrives_at : Look → Table → Bool
arrives_at (To t next) table = is_away (stand_of table t) && is_barrier next.sync
arrives_at (Unknown t) table = false
arrives_at NoThread table = false

-- the token looks at the threads from one on up to a place, and at others then
abbrev pub ComesTo : Table → (from to : ℕ) → Type 0
ComesTo table from to =
    (rest : List ℕ) × (look table (ring table.token (length table.seats)) ≡ look table (numbers from (to - from) ++ rest))

-- a span reaches over each thread of a stretch too, none of which is in the span before
pub record Reaches (before : Span) (from past : ℕ) (after : Span) : Type 0 where
  pub inside : (t : ℕ) → from ≤ t → t < past → (covers before t ≡ false) × (covers after t ≡ true)
  pub other : (t : ℕ) → (t < from) ⊎ (past ≤ t) → covers after t ≡ covers before t

-- no thread is in the span
abbrev pub no_span : Span
no_span = record { first = 0; past = 0; low = 0 }

-- the span after a turn: an issue and an arrival forget all passes
abbrev pub span_after : TurnHere → (arrives : Bool) → Span → Span
span_after (here.Issue t next child) arrives span = no_span
span_after here.Pass arrives span = cond arrives no_span span
span_after _ arrives span = span

-- whether the turn opened a barrier
abbrev pub opens : TurnHere → (arrives : Bool) → Bool
opens (here.Issue t next child) arrives = arrives
opens _ arrives = false

-- whether the thread that is found is known, waits and is in the span
abbrev pub found_round : Span → Look → Table → Bool
found_round span (To t next) table = is_waiting (stand_of table t) && covers span t
found_round span (Unknown t) table = false
found_round span NoThread table = false

-- whether the thread that the token comes to has passed in the span
abbrev pub comes_round : Span → Table → Bool
comes_round span table = found_round span (look table (ring table.token (length table.seats))) table

-- the place after the last thread that waits, of those that a walk has gone over which comes to a thread
abbrev pub past_of : (past t : ℕ) → (waits : Bool) → Way → ℕ
past_of past t waits way = cond (nat_lt t way.past) way.past (cond waits (t + 1) past)
