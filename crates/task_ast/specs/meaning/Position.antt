-- The positions of a thread.
use Rattle.std.specs.Prelude.{ℕ, zero, suc, false, cond, nat_eq, List, Option, Some, None, slice_get}
use Rattle.std.specs.Option.{option_map_or}
use Rattle.task_ast.specs.meaning.Plain.{Subthread}

-- the last position below this one of the same thread
abbrev pub last_below : List Subthread → (thread position : ℕ) → Option ℕ
last_below run t zero = None
last_below run t (suc p) = cond (option_map_or (λ s. nat_eq s.thread t) (slice_get run p) false) (Some p) (last_below run t p)
