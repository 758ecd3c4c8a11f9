-- Threads that rest: they have ended, or pass where the token comes to them.
use Rattle.std.specs.Prelude.{◌≡◌, ℕ, ◌<◌, ◌≤◌, pos, Bool, true, false, not, ◌&&◌, ◌||◌, List, length, map, Option, Some, None, is_none, nat_lt}
use Rattle.task_ast.specs.declared.sync.SyncOp.{SyncOp}
use Rattle.task_ast.specs.declared.sync.SyncOp.TheVariants as sync
use Rattle.task_ast.specs.declared.sync.Next.{Next}
use Rattle.task_ast.specs.Table.{Seat, Table, next_of, owner_in, unpassed}
use Rattle.task_ast.specs.Turn.{stand_of}
use Rattle.task_ast.specs.meaning.Table.{is_end, is_waiting}
use Rattle.one_thread.specs.View.{token_of}

-- whether a next synchronisation is known, and is not the end
abbrev pub is_going : Option Next → Bool
is_going None = false
is_going (Some next) = not (is_end next.sync)

-- whether a thread that stands at this synchronisation passes
abbrev pub stalls : SyncOp → Table → ℕ → Bool
stalls (sync.Lock l) table t = not (is_none (owner_in table.owners l))
stalls (sync.Join (pos h)) table t = nat_lt h (length table.seats) && is_going (next_of table h)
stalls (sync.Barrier b) table t = is_waiting (stand_of table t)
stalls _ table t = false

abbrev pub rests_at : Option Next → Table → ℕ → Bool
rests_at None table t = false
rests_at (Some next) table t = is_end next.sync || stalls next.sync table t

-- whether a thread has ended, or passes where the token comes to it
abbrev pub rests : Table → ℕ → Bool
rests table t = rests_at (next_of table t) table t

-- each thread from one up to another rests
abbrev pub RestBetween : (from to : ℕ) → Table → Type 0
RestBetween from to table = (t : ℕ) → from ≤ t → t < to → rests table t ≡ true

-- the table in which the token looks first at this thread
abbrev pub looking : Table → ℕ → Table
looking table start = record table { token = token_of start }

-- seats that are alike but for who has passed
abbrev pub Alike : List Seat → List Seat → Type 0
Alike seats others = map unpassed seats ≡ map unpassed others
