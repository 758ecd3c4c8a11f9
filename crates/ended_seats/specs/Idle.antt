-- The threads that no turn comes to any more, and what walks over the threads of a table go by.
use Rattle.std.specs.Prelude.{◌≡◌, ℕ, ◌<◌, ◌≤◌, Bool, true, false, not, ◌&&◌, List, [], ◌∷◌, ◌++◌, count_by, Some, slice_get, unwrap_or}
use Rattle.std.specs.Option.{option_map}
use Rattle.task_ast.specs.declared.sync.SyncOp.{SyncOp}
use Rattle.task_ast.specs.declared.sync.SyncOp.TheVariants as sync
use Rattle.task_ast.specs.Table.{has_ended, Seat}
use Rattle.task_ast.specs.meaning.Table.{is_waiting}

-- whether a thread is known to have ended, and has not passed
abbrev pub is_idle : Seat → Bool
is_idle seat = has_ended seat && not seat.passed

-- whether there is a thread of this number, and it is idle
abbrev pub idle_at : List Seat → ℕ → Bool
idle_at seats t = unwrap_or (option_map is_idle (slice_get seats t)) false

-- whether there is a thread of this number, and it has passed
abbrev pub passed_at : List Seat → ℕ → Bool
passed_at seats t = unwrap_or (option_map (λ s. s.passed) (slice_get seats t)) false

-- whether a thread waits at a barrier
abbrev pub waits : Seat → Bool
waits seat = is_waiting seat.stand

-- each thread from one up to another is there, and is idle
abbrev pub IdleBetween : (from to : ℕ) → List Seat → Type 0
IdleBetween from to seats = (t : ℕ) → from ≤ t → t < to → idle_at seats t ≡ true

-- each thread has a number at which a walk goes on that comes to it; the threads from it up to that number are idle
abbrev pub IdleOver : (onward : List ℕ) → List Seat → Type 0
IdleOver onward seats = (t n : ℕ) → slice_get onward t ≡ Some n → IdleBetween t n seats

-- no walk goes over this thread
abbrev pub Uncovered : (onward : List ℕ) → ℕ → Type 0
Uncovered onward t = (u n : ℕ) → slice_get onward u ≡ Some n → u ≤ t → n ≤ t

-- the threads that have passed are among these
abbrev pub PassedWithin : (first last : ℕ) → List Seat → Type 0
PassedWithin first last seats = (t : ℕ) → passed_at seats t ≡ true → (first ≤ t) × (t ≤ last)

-- what walks go by: walks go over idle threads, the threads that have passed are among those of a range, and at most so many
-- wait at barriers
pub record Walks (onward : List ℕ) (first last most : ℕ) (seats : List Seat) : Type 0 where
  pub idle : IdleOver onward seats
  pub passed : PassedWithin first last seats
  pub few : count_by waits seats ≤ most

-- no walk goes on beyond a forked thread
abbrev pub onward_after : SyncOp → List ℕ → List ℕ
onward_after (sync.Fork task arguments) onward = onward ++ 0 ∷ []
onward_after _ onward = onward
