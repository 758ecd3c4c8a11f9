-- Threads that sleep: they have ended or wait at a barrier, so they rest until a barrier opens, whatever other threads do.
use Rattle.std.specs.Prelude.{◌≡◌, ℕ, ◌<◌, ◌≤◌, Bool, true, false, List, Option, Some, None, slice_get, unwrap_or}
use Rattle.std.specs.Option.{option_map}
use Rattle.task_ast.specs.declared.sync.SyncOp.{SyncOp}
use Rattle.task_ast.specs.declared.sync.SyncOp.TheVariants as sync
use Rattle.task_ast.specs.declared.sync.Next.{Next}
use Rattle.task_ast.specs.Table.{Seat}
use Rattle.task_ast.specs.meaning.Table.{Stand, is_waiting}

-- whether a thread that stands so before this synchronisation has ended, or waits at a barrier
abbrev pub sleeps_before : SyncOp → Stand → Bool
sleeps_before sync.End stand = true
sleeps_before (sync.Barrier b) stand = is_waiting stand
sleeps_before _ stand = false

abbrev pub sleeps_by : Option Next → Stand → Bool
sleeps_by None stand = false
sleeps_by (Some next) stand = sleeps_before next.sync stand

abbrev pub sleeps : Seat → Bool
sleeps seat = sleeps_by seat.next seat.stand

-- whether there is a thread of this number, and it sleeps
abbrev pub sleeps_at : List Seat → ℕ → Bool
sleeps_at seats t = unwrap_or (option_map sleeps (slice_get seats t)) false

-- each thread from one up to another sleeps
abbrev pub SleepBetween : (from to : ℕ) → List Seat → Type 0
SleepBetween from to seats = (t : ℕ) → from ≤ t → t < to → sleeps_at seats t ≡ true

-- the number of the thread to which a way leads from this one, or 0
abbrev pub way_at : List ℕ → ℕ → ℕ
way_at ways t = unwrap_or (slice_get ways t) 0

-- ways go over threads that sleep
abbrev pub SleepOver : (ways : List ℕ) → List Seat → Type 0
SleepOver ways seats = (t : ℕ) → SleepBetween t (way_at ways t) seats

-- no way goes over this thread
abbrev pub IsUncrossed : (ways : List ℕ) → ℕ → Type 0
IsUncrossed ways t = (u : ℕ) → u ≤ t → way_at ways u ≤ t
