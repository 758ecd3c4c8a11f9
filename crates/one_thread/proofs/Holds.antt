-- The locks that threads hold, as a lock goes from one owner to another.
use Rattle.std.proofs.Common.{◌≡◌, ℕ, ◌<◌, List, [], length, Option, Some, None, refl, sym, ◌∙◌, subst, true, false}
use Rattle.std.specs.Prelude.{slice_get, slice_set, replicate}
use Rattle.task_ast.proofs.IssuedTables.{get_set_here}
use Rattle.task_ast.proofs.Holds as locks
use Rattle.task_ast.proofs.Holds.{kept, set-set}
use Rattle.task_ast.specs.LockLists.{held_at}
use Rattle.one_thread.specs.Holding.{after_change, AreHeld}

-- the old owner gives the lock back
released : (owners : List (Option ℕ)) (held other : List (List ℕ)) (l : ℕ) (old : Option ℕ) → AreHeld owners held → l < length owners
    → slice_get owners l ≡ Some old
    → ((u : ℕ) → held_at other u ≡ after_change old false l held u) → AreHeld (slice_set owners l None) other
released owners held other l None are within at same =
    record { each = λ u. same u ∙ are.each u ∙ sym (kept 0 l owners u None None at refl refl) }
released owners held other l (Some b) are within at same = record { each = locks.released owners held other l b are.each within at same }

-- the new owner takes it
taken : (owners : List (Option ℕ)) (held other : List (List ℕ)) (l : ℕ) (new : Option ℕ) → AreHeld owners held
    → slice_get owners l ≡ Some None
    → ((u : ℕ) → held_at other u ≡ after_change new true l held u) → AreHeld (slice_set owners l new) other
taken owners held other l None are at same = record { each = λ u. same u ∙ are.each u ∙ sym (kept 0 l owners u None None at refl refl) }
taken owners held other l (Some t) are at same = record { each = locks.taken owners held other l t are.each at same }

-- a lock goes from one owner to another
pub handed : (owners : List (Option ℕ)) (held middle other : List (List ℕ)) (l : ℕ) (old new : Option ℕ) → AreHeld owners held
    → l < length owners → slice_get owners l ≡ Some old
    → ((u : ℕ) → held_at middle u ≡ after_change old false l held u) → ((u : ℕ) → held_at other u ≡ after_change new true l middle u)
    → AreHeld (slice_set owners l new) other
handed owners held middle other l old new are within at first second =
    subst (λ os. AreHeld os other) (set-set owners l None new)
    (taken (slice_set owners l None) middle other l new (released owners held middle l old are within at first)
    (get_set_here owners l None within) second)

-- where nobody owns a lock, nobody holds one
pub none_held : (count : ℕ) (owners : List (Option ℕ)) (held : List (List ℕ)) → owners ≡ replicate count None → held ≡ []
    → AreHeld owners held
none_held count owners held os hs = record { each = locks.none_held count owners held os hs }
