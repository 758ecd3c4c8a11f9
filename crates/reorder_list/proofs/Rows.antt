-- Entries whose positions follow one another.
use Rattle.std.specs.Option.{IsSome, option_copied}
use Rattle.std.proofs.Common.{Option, Bor, IfSome, ◌↔◌, ◌≡◌, ℕ, zero, suc, ◌+◌, ◌-◌, ◌<◌, ◌≤◌, List, [], ◌∷◌, ◌++◌, length, Some, None, refl, sym, ap, ◌∙◌, arith, get_or, slice_get, slice_set}
use Rattle.std.proofs.lemmas.Bool.{eq-eqb, ne_eqb}
use Rattle.std.proofs.lemmas.Option.{slice_get-get_or, slice_get_past}
use Rattle.reorder_list.specs.declared.entry.Entry.{Entry}
use Rattle.reorder_list.specs.Entries.{StandFrom, first_position, IsInRow, ComesNext, entry_at, with_change_at}
use Rattle.reorder_list.specs.Places.{IsPlaceOf}

-- no entry has a position before the first
pub before-first : (b p : ℕ) (entries : List Entry) → StandFrom b entries → p < b → entry_at entries p ≡ None
before-first b p [] stands l = refl
before-first b p (e ∷ entries) stands l =
    rw (ne_eqb e.pos p (λ same. let first = stands.0 in omega arith)) (before-first (suc b) p entries stands.1 (omega arith))

-- the entry at a place has the position as far from the first, and past the end there is none
pub stands-at : (b p k : ℕ) (entries : List Entry) → StandFrom b entries → p ≡ b + k → entry_at entries p ≡ slice_get entries k
stands-at b p k [] stands is = refl
stands-at b p zero (e ∷ entries) stands is = rw (eq-eqb e.pos p (let first = stands.0 in omega arith)) refl
stands-at b p (suc k) (e ∷ entries) stands is =
    rw (ne_eqb e.pos p (λ same. let first = stands.0 in omega arith)) (stands-at (suc b) p k entries stands.1 (omega arith))

-- a change at a position before the first changes nothing
pub unchanged : (b p : ℕ) (change : Entry → Entry) (entries : List Entry) → StandFrom b entries → p < b
    → with_change_at p change entries ≡ entries
unchanged b p change [] stands l = refl
unchanged b p change (e ∷ entries) stands l =
    rw (ne_eqb e.pos p (λ same. let first = stands.0 in omega arith))
    (ap (λ rest. e ∷ rest) (unchanged (suc b) p change entries stands.1 (omega arith)))

-- a change at a position is one at its place
pub changed-at : (b p k : ℕ) (change : Entry → Entry) (entries : List Entry) (e : Entry) → StandFrom b entries → p ≡ b + k
    → slice_get entries k ≡ Some e
    → slice_set entries k (change e) ≡ with_change_at p change entries
changed-at b p k change [] e stands is there = absurd (cc there)
changed-at b p zero change (x ∷ entries) e stands is there =
    let same : x ≡ e = cc there in
    rw (eq-eqb x.pos p (let first = stands.0 in omega arith))
    (ap (λ y. change y ∷ entries) (sym same) ∙ ap (λ rest. change x ∷ rest)
    (sym (unchanged (suc b) p change entries stands.1 (omega arith))))
changed-at b p (suc k) change (x ∷ entries) e stands is there =
    rw (ne_eqb x.pos p (λ same. let first = stands.0 in omega arith))
    (ap (λ rest. x ∷ rest) (changed-at (suc b) p k change entries e stands.1 (omega arith) there))

-- another entry of the same position stands in a row too
pub stands-set : (b k : ℕ) (entries : List Entry) (e y : Entry) → StandFrom b entries → slice_get entries k ≡ Some e → y.pos ≡ e.pos
    → StandFrom b (slice_set entries k y)
stands-set b k [] e y stands there same = tt
stands-set b zero (x ∷ entries) e y stands there same =
    (same ∙ (ap (λ (z : Entry). z.pos) (let is : e ≡ x = cc there in is) ∙ stands.0), stands.1)
stands-set b (suc k) (x ∷ entries) e y stands there same = (stands.0, stands-set (suc b) k entries e y stands.1 there same)

-- with the next entry at the end
pub stands-push : (b : ℕ) (entries : List Entry) (e : Entry) → StandFrom b entries → e.pos ≡ b + length entries
    → StandFrom b (entries ++ e ∷ [])
stands-push b [] e stands is = (omega arith, tt)
stands-push b (x ∷ entries) e stands is = (stands.0, stands-push (suc b) entries e stands.1 (omega arith))

-- the next position is as far from the first as there are entries
pub comes-next : (b p : ℕ) (entries : List Entry) → StandFrom b entries → p ≡ b + length entries → ComesNext entries p
comes-next b p [] stands is = tt
comes-next b p (e ∷ []) stands is = let first = stands.0 in omega arith
comes-next b p (e ∷ x ∷ entries) stands is = comes-next (suc b) p (x ∷ entries) stands.1 (omega arith)

pub next-is : (b p : ℕ) (e : Entry) (entries : List Entry) → StandFrom b (e ∷ entries) → ComesNext (e ∷ entries) p
    → p ≡ b + suc (length entries)
next-is b p e [] stands next = let first = stands.0 in omega arith
next-is b p e (x ∷ entries) stands next = let rest = next-is (suc b) p x entries stands.1 next in omega arith

-- a row of entries with the next at the end is a row
pub row-push : (entries : List Entry) (e : Entry) → IsInRow entries → ComesNext entries e.pos → IsInRow (entries ++ e ∷ [])
row-push [] e row next = (refl, tt)
row-push (x ∷ entries) e row next = stands-push x.pos (x ∷ entries) e row (next-is x.pos e.pos x entries row next)

-- and so is one without its first
pub row-rest : (e : Entry) (entries : List Entry) → IsInRow (e ∷ entries) → IsInRow entries
row-rest e [] row = tt
row-rest e (x ∷ entries) row = (refl, let second = row.1.0 in let rest = row.1.1 in rw second rest)

-- what an index reads
pub read-at : {A : Type 0} (xs : List A) (k : ℕ) (x : A) → k < length xs → x ≡ get_or xs k x → slice_get xs k ≡ Some x
read-at xs k x l is = slice_get-get_or xs k x l ∙ ap Some (sym is)

module _ (entries : List Entry) (row : IsInRow entries) (p k : ℕ) (place : IsPlaceOf entries p k) where
  pub at-place : entry_at entries p ≡ slice_get entries k
  at-place = stands-at (first_position entries) p k entries row place.position

  pub set-place : (change : Entry → Entry) (e : Entry) → e ≡ get_or entries k e
      → slice_set entries k (change e) ≡ with_change_at p change entries
  set-place change e is = changed-at (first_position entries) p k change entries e row place.position (read-at entries k e place.within is)

-- a position before that of the first entry has none
pub none-before : (entries : List Entry) (e : Entry) (p : ℕ) → IsInRow entries → e ≡ get_or entries 0 e → p < e.pos
    → entry_at entries p ≡ None
none-before [] e p row is l = refl
none-before (x ∷ entries) e p row is l = before-first x.pos p (x ∷ entries) row (let same = ap (λ (z : Entry). z.pos) is in omega arith)

-- and so has one that is as far from it as there are entries, or farther
pub none-past : (entries : List Entry) (e : Entry) (p : ℕ) → IsInRow entries → e ≡ get_or entries 0 e → e.pos ≤ p
    → length entries ≤ p - e.pos → entry_at entries p ≡ None
none-past [] e p row is l past = refl
none-past (x ∷ entries) e p row is l past =
    let same = ap (λ (z : Entry). z.pos) is in
    stands-at x.pos p (p - x.pos) (x ∷ entries) row (omega arith) ∙ slice_get_past (x ∷ entries) (p - x.pos) (omega arith)

-- what a read inside the list answers
pub got-at : {A : Type 0} (xs : List A) (k n : ℕ) (r : Option (Bor A)) → k < length xs → n ≡ length xs → IsSome r ↔ (k < n)
    → IfSome r (λ x. x.now ≡ get_or xs k x.now) → option_copied r ≡ slice_get xs k
got-at xs k n None l same variant lookup = absurd (let some = variant.1 (omega arith) in cc some)
got-at xs k n (Some x) l same variant lookup = sym (read-at xs k x.now l lookup)
