-- Who owns a lock, and the list of the locks that a thread holds.
use Rattle.std.specs.Prelude.{ℕ, ◌==◌, Bool, false, cond, List, [], ◌∷◌, ◌++◌, Option, Some, None, nat_lt, slice_get, unwrap_or}
use Rattle.std.specs.List.{filter}

-- whether the thread is the owner
abbrev pub is_owner : ℕ → Option ℕ → Bool
is_owner t None = false
is_owner t (Some owner) = t == owner

-- a rising list with this lock, or without it
abbrev pub with_lock : (holds : Bool) → (lock : ℕ) → List ℕ → List ℕ
with_lock holds lock held = filter (λ x. nat_lt x lock) held ++ cond holds (lock ∷ []) [] ++ filter (λ x. nat_lt lock x) held

-- the locks of a thread; one that has no list yet holds none
abbrev pub held_at : List (List ℕ) → ℕ → List ℕ
held_at held t = unwrap_or (slice_get held t) []
