-- What stands at a position of entries that were changed, and of entries with one more.
use Rattle.std.proofs.Common.{◌≡◌, ℕ, suc, ◌+◌, ◌<◌, ◌≤◌, Bool, true, false, cond, nat_eq, List, [], ◌∷◌, ◌++◌, length, All, Some, None, refl, sym, ap, subst, ◌∙◌, arith}
use Rattle.std.specs.Prelude.{option_map}
use Rattle.std.specs.Option.{option_or}
use Rattle.std.proofs.lemmas.Bool.{eqb-true, eq-eqb, ne_eqb}
use Rattle.std.proofs.lemmas.List.{length-map}
use Rattle.std.proofs.lemmas.List.Elements.{All-nil, All-cons, All-head, All-tail}
use Rattle.reorder_list.specs.declared.entry.Entry.{Entry}
use Rattle.reorder_list.specs.Entries.{StandFrom, entry_at, with_change}

-- a change keeps the position of each entry
abbrev pub KeepsPosition : (Entry → Entry) → Type 0
KeepsPosition change = (e : Entry) → (change e).pos ≡ e.pos

abbrev pub changed_where : Bool → (Entry → Entry) → Entry → Entry
changed_where b change e = cond b (change e) e

pub same-position : (b : Bool) (change : Entry → Entry) (e : Entry) → KeepsPosition change → (changed_where b change e).pos ≡ e.pos
same-position true change e keeps = keeps e
same-position false change e keeps = refl

-- the entry of a position is changed where the position passes the test
pub changed : (test : ℕ → Bool) (change : Entry → Entry) (entries : List Entry) (p : ℕ) → KeepsPosition change
    → entry_at (with_change test change entries) p ≡ option_map (changed_where (test p) change) (entry_at entries p)
changed test change [] p keeps = refl
changed test change (e ∷ entries) p keeps =
    ap (λ k. cond (nat_eq k p) (Some (changed_where (test e.pos) change e)) (entry_at (with_change test change entries) p))
    (same-position (test e.pos) change e keeps)
    ∙ go (changed test change entries p keeps) (nat_eq e.pos p) refl
  where
    go : entry_at (with_change test change entries) p ≡ option_map (changed_where (test p) change) (entry_at entries p) → (b : Bool)
        → nat_eq e.pos p ≡ b
        → cond b (Some (changed_where (test e.pos) change e)) (entry_at (with_change test change entries) p)
        ≡ option_map (changed_where (test p) change) (cond b (Some e) (entry_at entries p))
    go rest true is = ap (λ k. Some (changed_where (test k) change e)) (eqb-true e.pos p is)
    go rest false is = rest

-- one more entry stands at its position, where no other does
pub pushed : (entries : List Entry) (e : Entry) (p : ℕ)
    → entry_at (entries ++ e ∷ []) p ≡ option_or (entry_at entries p) (cond (nat_eq e.pos p) (Some e) None)
pushed [] e p = refl
pushed (x ∷ entries) e p = go (pushed entries e p) (nat_eq x.pos p)
  where
    go : entry_at (entries ++ e ∷ []) p ≡ option_or (entry_at entries p) (cond (nat_eq e.pos p) (Some e) None) → (b : Bool)
        → cond b (Some x) (entry_at (entries ++ e ∷ []) p)
        ≡ option_or (cond b (Some x) (entry_at entries p)) (cond (nat_eq e.pos p) (Some e) None)
    go rest true = refl
    go rest false = rest

-- the entry of a position has it
pub position-of : (entries : List Entry) (p : ℕ) (e : Entry) → entry_at entries p ≡ Some e → e.pos ≡ p
position-of [] p e there = absurd (cc there)
position-of (x ∷ entries) p e there = go (position-of entries p e) (nat_eq x.pos p) refl there
  where
    go : (entry_at entries p ≡ Some e → e.pos ≡ p) → (b : Bool) → nat_eq x.pos p ≡ b → cond b (Some x) (entry_at entries p) ≡ Some e
        → e.pos ≡ p
    go rest true is there = let same : x ≡ e = cc there in ap (λ (y : Entry). y.pos) (sym same) ∙ eqb-true x.pos p is
    go rest false is there = rest there

-- entries stand from the first position up to the last
pub from-first : (b : ℕ) (entries : List Entry) (p : ℕ) (e : Entry) → StandFrom b entries → entry_at entries p ≡ Some e
    → (b ≤ p) × (p < b + length entries)
from-first b [] p e stands there = absurd (cc there)
from-first b (x ∷ entries) p e stands there = go (from-first (suc b) entries p e stands.1) (nat_eq x.pos p) refl there
  where
    go : (entry_at entries p ≡ Some e → (suc b ≤ p) × (p < suc b + length entries)) → (t : Bool) → nat_eq x.pos p ≡ t
        → cond t (Some x) (entry_at entries p) ≡ Some e → (b ≤ p) × (p < b + suc (length entries))
    go rest true is there = let same = eqb-true x.pos p is in let first = stands.0 in (omega arith, omega arith)
    go later false is there = let rest = later there in let low = rest.0 in let high = rest.1 in (omega arith, omega arith)

-- each position from the first up to the last has an entry
pub is-there : (b : ℕ) (entries : List Entry) (p : ℕ) → StandFrom b entries → b ≤ p → p < b + length entries
    → (e : Entry) × (entry_at entries p ≡ Some e)
is-there b [] p stands low high = absurd (omega arith)
is-there b (x ∷ entries) p stands low high = go (is-there (suc b) entries p stands.1) (nat_eq x.pos p) refl
  where
    go : (suc b ≤ p → p < suc b + length entries → (e : Entry) × (entry_at entries p ≡ Some e)) → (t : Bool) → nat_eq x.pos p ≡ t
        → (e : Entry) × (cond t (Some x) (entry_at entries p) ≡ Some e)
    go rest true is = (x, refl)
    go rest false is =
        rest
        (let first = stands.0 in let ne : p ≡ b → ⊥ =
        (λ same. absurd (let e = eq-eqb x.pos p (omega arith) in let both = sym is ∙ e in cc both)) in omega arith)
        (omega arith)

-- what each entry meets, that of a position meets
pub all-there : (P : Entry → Type 0) (entries : List Entry) (p : ℕ) (e : Entry) → All P entries → entry_at entries p ≡ Some e → P e
all-there P [] p e all there = absurd (cc there)
all-there P (x ∷ entries) p e all there = go (all-there P entries p e (All-tail P x entries all)) (nat_eq x.pos p) there
  where
    go : (entry_at entries p ≡ Some e → P e) → (b : Bool) → cond b (Some x) (entry_at entries p) ≡ Some e → P e
    go rest true is = subst P (let same : x ≡ e = cc is in same) (All-head P x entries all)
    go rest false is = rest is

-- and what those of all positions meet, each entry meets
pub each-there : (P : Entry → Type 0) (b : ℕ) (entries : List Entry) → StandFrom b entries
    → ((p : ℕ) (e : Entry) → entry_at entries p ≡ Some e → P e) → All P entries
each-there P b [] stands each = All-nil P
each-there P b (x ∷ entries) stands each =
    All-cons P x entries (each x.pos x (rw (eq-eqb x.pos x.pos refl) refl))
    (each-there P (suc b) entries stands.1 (λ p e there. each p e (later p e there)))
  where
    later : (p : ℕ) (e : Entry) → entry_at entries p ≡ Some e → entry_at (x ∷ entries) p ≡ Some e
    later p e there =
        let low = (from-first (suc b) entries p e stands.1 there).0 in
        rw (ne_eqb x.pos p (λ same. let first = stands.0 in omega arith)) there

-- changed entries stand as before
pub stands-changed : (b : ℕ) (test : ℕ → Bool) (change : Entry → Entry) (entries : List Entry) → KeepsPosition change → StandFrom b entries
    → StandFrom b (with_change test change entries)
stands-changed b test change [] keeps stands = tt
stands-changed b test change (e ∷ entries) keeps stands =
    (same-position (test e.pos) change e keeps ∙ stands.0, stands-changed (suc b) test change entries keeps stands.1)

-- what each entry meets, each changed one meets too
pub all-changed : (P Q : Entry → Type 0) (test : ℕ → Bool) (change : Entry → Entry) (entries : List Entry) → ((e : Entry) → P e → Q e)
    → ((e : Entry) → P e → Q (change e))
    → All P entries → All Q (with_change test change entries)
all-changed P Q test change [] same new all = All-nil Q
all-changed P Q test change (e ∷ entries) same new all =
    All-cons Q (changed_where (test e.pos) change e) (with_change test change entries) (go (test e.pos))
    (all-changed P Q test change entries same new (All-tail P e entries all))
  where
    go : (b : Bool) → Q (changed_where b change e)
    go true = new e (All-head P e entries all)
    go false = same e (All-head P e entries all)

pub same-length : (test : ℕ → Bool) (change : Entry → Entry) (entries : List Entry)
    → length (with_change test change entries) ≡ length entries
same-length test change entries = length-map entries (λ e. changed_where (test e.pos) change e)
