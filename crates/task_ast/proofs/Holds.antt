-- The locks that threads hold, as an owner changes.
use Rattle.std.proofs.Common.{◌≡◌, ℕ, zero, suc, ◌+◌, ◌<◌, ◌≤◌, Bool, true, false, cond, List, [], ◌∷◌, length, Option, Some, None, refl, sym, ap, ◌∙◌, subst, arith, nat_lt}
use Rattle.std.specs.Prelude.{◌==◌, slice_get, slice_set, replicate}
use Rattle.std.specs.List.{filter}
use Rattle.std.proofs.lemmas.Bool.{lt-ltb, le-ltb, eqb-true}
use Rattle.std.proofs.lemmas.Option.{slice_get_within}
use Rattle.task_ast.specs.meaning.Table.{owned_from}
use Rattle.task_ast.specs.LockLists.{is_owner, with_lock, held_at}

above : (n m : ℕ) (owners : List (Option ℕ)) (t : ℕ) → n < m → filter (λ x. nat_lt n x) (owned_from m owners t) ≡ owned_from m owners t
above n m [] t l = refl
above n m (None ∷ owners) t l = above n (suc m) owners t (omega arith)
above n m (Some u ∷ owners) t l = go (t == u) (above n (suc m) owners t (omega arith))
  where
    go : (b : Bool) → filter (λ x. nat_lt n x) (owned_from (suc m) owners t) ≡ owned_from (suc m) owners t
        → filter (λ x. nat_lt n x) (cond b (m ∷ owned_from (suc m) owners t) (owned_from (suc m) owners t))
        ≡ cond b (m ∷ owned_from (suc m) owners t) (owned_from (suc m) owners t)
    go true same = rw (lt-ltb n m l) (ap (λ xs. m ∷ xs) same)
    go false same = same

below : (n m : ℕ) (owners : List (Option ℕ)) (t : ℕ) → n ≤ m → filter (λ x. nat_lt x n) (owned_from m owners t) ≡ []
below n m [] t l = refl
below n m (None ∷ owners) t l = below n (suc m) owners t (omega arith)
below n m (Some u ∷ owners) t l = go (t == u) (below n (suc m) owners t (omega arith))
  where
    go : (b : Bool) → filter (λ x. nat_lt x n) (owned_from (suc m) owners t) ≡ []
        → filter (λ x. nat_lt x n) (cond b (m ∷ owned_from (suc m) owners t) (owned_from (suc m) owners t)) ≡ []
    go true same = rw (le-ltb m n l) same
    go false same = same

-- a list that begins with a smaller lock
first_stays : (holds : Bool) (m n : ℕ) (rest : List ℕ) → n < m → with_lock holds m (n ∷ rest) ≡ n ∷ with_lock holds m rest
first_stays holds m n rest l = let le : n ≤ m = omega arith in rw (lt-ltb n m l, le-ltb m n le) refl

-- the lock itself
first_changes : (holds : Bool) (n : ℕ) (b : Bool) (owners : List (Option ℕ)) (t : ℕ) →
    with_lock holds n (cond b (n ∷ owned_from (suc n) owners t) (owned_from (suc n) owners t))
    ≡ cond holds (n ∷ owned_from (suc n) owners t) (owned_from (suc n) owners t)
first_changes true n true owners t =
    let le : n ≤ n = omega arith in
    rw (le-ltb n n le, below n (suc n) owners t (omega arith), above n (suc n) owners t (omega arith)) refl
first_changes false n true owners t =
    let le : n ≤ n = omega arith in
    rw (le-ltb n n le, below n (suc n) owners t (omega arith), above n (suc n) owners t (omega arith)) refl
first_changes true n false owners t = rw (below n (suc n) owners t (omega arith), above n (suc n) owners t (omega arith)) refl
first_changes false n false owners t = rw (below n (suc n) owners t (omega arith), above n (suc n) owners t (omega arith)) refl

owned_first : (n : ℕ) (o : Option ℕ) (owners : List (Option ℕ)) (t : ℕ)
    → owned_from n (o ∷ owners) t ≡ cond (is_owner t o) (n ∷ owned_from (suc n) owners t) (owned_from (suc n) owners t)
owned_first n None owners t = refl
owned_first n (Some u) owners t = refl

-- a thread's locks after an owner changes
pub changed : (n l : ℕ) (owners : List (Option ℕ)) (t : ℕ) (o : Option ℕ) → l < length owners
    → owned_from n (slice_set owners l o) t ≡ with_lock (is_owner t o) (n + l) (owned_from n owners t)
changed n l [] t o within = absurd (omega arith)
changed n zero (x ∷ owners) t o within =
    let z : n + 0 ≡ n = omega arith in
    owned_first n o owners t ∙ sym (first_changes (is_owner t o) n (is_owner t x) owners t)
    ∙ ap (with_lock (is_owner t o) n) (sym (owned_first n x owners t))
    ∙ ap (λ k. with_lock (is_owner t o) k (owned_from n (x ∷ owners) t)) (sym z)
changed n (suc l) (x ∷ owners) t o within =
    let s : suc n + l ≡ n + suc l = omega arith in
    owned_first n x (slice_set owners l o) t ∙ go (is_owner t x)
    (subst (λ k. owned_from (suc n) (slice_set owners l o) t ≡ with_lock (is_owner t o) k (owned_from (suc n) owners t)) s
    (changed (suc n) l owners t o (omega arith)))
    ∙ ap (with_lock (is_owner t o) (n + suc l)) (sym (owned_first n x owners t))
  where
    go : (b : Bool) → owned_from (suc n) (slice_set owners l o) t ≡ with_lock (is_owner t o) (n + suc l) (owned_from (suc n) owners t)
        → cond b (n ∷ owned_from (suc n) (slice_set owners l o) t) (owned_from (suc n) (slice_set owners l o) t)
        ≡ with_lock (is_owner t o) (n + suc l) (cond b (n ∷ owned_from (suc n) owners t) (owned_from (suc n) owners t))
    go true same = ap (λ xs. n ∷ xs) same ∙ sym (first_stays (is_owner t o) (n + suc l) n (owned_from (suc n) owners t) (omega arith))
    go false same = same

-- a thread that was no owner and becomes none
pub kept : (n l : ℕ) (owners : List (Option ℕ)) (t : ℕ) (old new : Option ℕ) → slice_get owners l ≡ Some old → is_owner t old ≡ false
    → is_owner t new ≡ false → owned_from n (slice_set owners l new) t ≡ owned_from n owners t
kept n l [] t old new at was is = refl
kept n zero (x ∷ owners) t old new at was is =
    let same : x ≡ old = cc at in
    owned_first n new owners t ∙ rw is (sym (owned_first n x owners t ∙ rw (same, was) refl))
kept n (suc l) (x ∷ owners) t old new at was is =
    owned_first n x (slice_set owners l new) t ∙ ap (λ r. cond (is_owner t x) (n ∷ r) r) (kept (suc n) l owners t old new at was is)
    ∙ sym (owned_first n x owners t)

pub set-set : (owners : List (Option ℕ)) (l : ℕ) (a b : Option ℕ) → slice_set (slice_set owners l a) l b ≡ slice_set owners l b
set-set [] l a b = refl
set-set (x ∷ owners) zero a b = refl
set-set (x ∷ owners) (suc l) a b = ap (λ xs. x ∷ xs) (set-set owners l a b)

pub zero_plus : (l : ℕ) → 0 + l ≡ l
zero_plus l = omega arith

-- each thread's list has the locks that it owns
abbrev pub Each : List (List ℕ) → List (Option ℕ) → Type 0
Each held owners = (u : ℕ) → held_at held u ≡ owned_from 0 owners u

-- the lists after that of one thread is changed by one lock
abbrev pub IsPut : ℕ → (holds : Bool) → (lock : ℕ) → List (List ℕ) → List (List ℕ) → Type 0
IsPut t holds l held other = (u : ℕ) → held_at other u ≡ cond (u == t) (with_lock holds l (held_at held t)) (held_at held u)

-- the owner gives a lock back
pub released : (owners : List (Option ℕ)) (held other : List (List ℕ)) (l b : ℕ) → Each held owners → l < length owners
    → slice_get owners l ≡ Some (Some b)
    → IsPut b false l held other → Each other (slice_set owners l None)
released owners held other l b each within at same u = same u ∙ go (u == b) refl
  where
    go : (e : Bool) → (u == b) ≡ e → cond e (with_lock false l (held_at held b)) (held_at held u) ≡ owned_from 0 (slice_set owners l None) u
    go true e =
        let is : u ≡ b = eqb-true u b e in
        ap (with_lock false l) (each b) ∙ ap (λ k. with_lock false l (owned_from 0 owners k)) (sym is)
        ∙ ap (λ k. with_lock false k (owned_from 0 owners u)) (sym (zero_plus l)) ∙ sym (changed 0 l owners u None within)
    go false e = each u ∙ sym (kept 0 l owners u (Some b) None at e refl)

-- a thread takes a lock that nobody owns
pub taken : (owners : List (Option ℕ)) (held other : List (List ℕ)) (l t : ℕ) → Each held owners → slice_get owners l ≡ Some None
    → IsPut t true l held other → Each other (slice_set owners l (Some t))
taken owners held other l t each at same u = same u ∙ go (u == t) refl
  where
    within : l < length owners
    within = slice_get_within owners l None at

    go : (e : Bool) → (u == t) ≡ e
        → cond e (with_lock true l (held_at held t)) (held_at held u) ≡ owned_from 0 (slice_set owners l (Some t)) u
    go true e =
        let is : u ≡ t = eqb-true u t e in
        ap (with_lock true l) (each t) ∙ ap (λ k. with_lock true l (owned_from 0 owners k)) (sym is)
        ∙ ap (λ b. with_lock b l (owned_from 0 owners u)) (sym e)
        ∙ ap (λ k. with_lock (is_owner u (Some t)) k (owned_from 0 owners u)) (sym (zero_plus l))
        ∙ sym (changed 0 l owners u (Some t) within)
    go false e = each u ∙ sym (kept 0 l owners u None (Some t) at refl e)

nobody : (n count t : ℕ) → owned_from n (replicate count None) t ≡ []
nobody n zero t = refl
nobody n (suc count) t = nobody (suc n) count t

-- where nobody owns a lock, nobody holds one
pub none_held : (locks : ℕ) (owners : List (Option ℕ)) (held : List (List ℕ)) → owners ≡ replicate locks None → held ≡ [] → Each held owners
none_held locks owners held os hs u = ap (λ h. held_at h u) hs ∙ sym (ap (λ o. owned_from 0 o u) os ∙ nobody 0 locks u)
