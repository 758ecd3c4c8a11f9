-- How a thread stands to a barrier, in which order the token looks at threads, and which locks a thread owns.
use Rattle.std.specs.Prelude.{ℕ, zero, suc, ◌-◌, ◌==◌, Bool, true, false, cond, List, [], ◌∷◌, ◌++◌, Option, Some, None}
use Rattle.task_ast.specs.declared.sync.SyncOp.{SyncOp}
use Rattle.task_ast.specs.declared.sync.SyncOp.TheVariants as sync
use Rattle.task_ast.specs.declared.sync.Next.{Next}

-- how a thread stands to the barrier that comes next
pub data Stand : Type 0 where
  Away : Stand
  Waits : Stand
  Released : Stand

-- the numbers from a up, so many
abbrev pub numbers : ℕ → ℕ → List ℕ
numbers a zero = []
numbers a (suc n) = a ∷ numbers (suc a) n

-- the threads in the order in which the token looks at them: first those after the thread whose turn was last
abbrev pub ring : Option ℕ → ℕ → List ℕ
ring None n = numbers 0 n
ring (Some t) n = numbers (suc t) (n - suc t) ++ numbers 0 (suc t)

-- whether this is the end of a thread
abbrev pub is_end : SyncOp → Bool
is_end sync.End = true
is_end _ = false

-- whether this is a settle
abbrev pub is_settle : SyncOp → Bool
is_settle (sync.Settle register control) = true
is_settle _ = false

-- the list with one place changed
abbrev pub with_nth : {A : Type 0} → List A → ℕ → (A → A) → List A
with_nth [] n f = []
with_nth (x ∷ xs) zero f = f x ∷ xs
with_nth (x ∷ xs) (suc n) f = x ∷ with_nth xs n f

-- whether a next synchronisation is this barrier
abbrev pub meets : ℕ → Option Next → Bool
meets b None = false
meets b (Some next) = meets_sync b next.sync
  where
    meets_sync : ℕ → SyncOp → Bool
    meets_sync b (sync.Barrier c) = b == c
    meets_sync b _ = false

-- whether a thread has arrived and isn't released
abbrev pub is_waiting : Stand → Bool
is_waiting Waits = true
is_waiting _ = false

-- the locks that the thread owns, in rising order, where the first owner is that of lock n
abbrev pub owned_from : ℕ → List (Option ℕ) → ℕ → List ℕ
owned_from n [] t = []
owned_from n (None ∷ owners) t = owned_from (suc n) owners t
owned_from n (Some owner ∷ owners) t = cond (t == owner) (n ∷ owned_from (suc n) owners t) (owned_from (suc n) owners t)
