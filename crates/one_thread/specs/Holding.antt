-- Which lock cells a thread holds.
use Rattle.std.specs.Prelude.{◌≡◌, ◌==◌, ℕ, Bool, cond, Some, None, List, Option}
use Rattle.task_ast.specs.LockLists.{with_lock, held_at}
use Rattle.task_ast.specs.meaning.Table.{owned_from}

-- the locks of thread u after those of a thread, where there is one, are changed by one
abbrev pub after_change : Option ℕ → (holds : Bool) → (lock : ℕ) → List (List ℕ) → ℕ → List ℕ
after_change None holds lock held u = held_at held u
after_change (Some t) holds lock held u = cond (u == t) (with_lock holds lock (held_at held t)) (held_at held u)

-- each thread's list has the locks that it owns
pub record AreHeld (owners : List (Option ℕ)) (held : List (List ℕ)) : Type 0 where
  pub each : (t : ℕ) → held_at held t ≡ owned_from 0 owners t
