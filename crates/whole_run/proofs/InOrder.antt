-- Faults that stand by position and then by attempt: the least that is struck, and the mask of an attempt.
use Rattle.std.proofs.Common.{w64, to_z, of_z, ◌≡◌, inl, inr, ℕ, zero, suc, ◌+◌, ◌-◌, ◌<◌, ◌≤◌, min, max, Bool, true, false, cond, ◌&&◌, ◌||◌, nat_eq, nat_le, List, [], ◌∷◌, length, get_or, slice_get, All, Contains, Option, Some, None, refl, sym, ap, subst, ◌∙◌, arith}
use Rattle.std.specs.Prelude.{◌⊎◌, pos, FitsSigned}
use Rattle.std.specs.List.{AllWithin, IsDistinct}
use Rattle.std.specs.List.Sorted.{IsPermutation, IsNonDecreasingBy}
use Rattle.std.specs.Option.{option_map_or}
use Rattle.std.proofs.lemmas.Bool.{false≢true, both_ways, eqb-true, eq-eqb, ne_eqb, and_parts, cases_lt}
use Rattle.std.proofs.lemmas.Int.{to_z-of_z}
use Rattle.std.proofs.lemmas.List.{get_or_default}
use Rattle.std.proofs.lemmas.List.Elements.{All-get_or}
use Rattle.std.proofs.lemmas.List.Sorted.{IsPermutation-sym, All-permutation, Contains-permutation}
use Rattle.std.proofs.lemmas.Option.{slice_get_within, slice_get-get_or, get_or_from_slice_get}
use Rattle.std.proofs.lemmas.Map.Keys.{apart_from_distinct, IsDistinct-tail}
use Rattle.gp_base.specs.declared.fault.Fault.{Fault}
use Rattle.gp_base.specs.declared.fault.Faults.{Faults}
use Rattle.gp_base.specs.meaning.Faults.{strikes_same}
use Rattle.gp_base.specs.Faults.{IsInRange}
use Rattle.dependence.specs.meaning.Restarts.{least_struck}
use Rattle.dependence.specs.Restarts.{mask_of}
use Rattle.dependence.specs.Standing.{NamesAttempt}
use Rattle.dependence.proofs.Struck.{Contains-head, Contains-later, none-among, none-left}
use Rattle.reorder_list.specs.declared.entry.Entry.{Entry}
use Rattle.reorder_list.specs.Entries.{StandFrom, first_position, IsInRow, entry_at}
use Rattle.reorder_list.proofs.Changes.{from-first}
use Rattle.whole_run.specs.inner.Striking.{strikes_entry, strikes, key_of, rank, AreInOrder, IsLeastOf}

-- the least that is struck

-- where no fault that passes is before p, what is struck is not before p
bounded : (test : Fault → Bool) (faults : List Fault) (p q : ℕ)
    → ((k : ℕ) (d : Fault) → k < length faults → test (get_or faults k d) ≡ true → p ≤ (get_or faults k d).pos)
    → least_struck test faults ≡ Some q → p ≤ q
bounded test [] p q floor e = absurd (cc e)
bounded test (x ∷ xs) p q floor e =
    go (test x) refl e (bounded test xs p) (λ k d l t. floor (suc k) d (omega arith) t) (floor zero x (omega arith))
  where
    Floor : Type 0
    Floor = (k : ℕ) (d : Fault) → k < length xs → test (get_or xs k d) ≡ true → p ≤ (get_or xs k d).pos

    pick : p ≤ x.pos → (o : Option ℕ) → least_struck test xs ≡ o → option_map_or (min x.pos) o x.pos ≡ q
        → ((r : ℕ) → least_struck test xs ≡ Some r → p ≤ r) → p ≤ q
    pick l None f is ih = omega arith
    pick l (Some r) f is ih = let deeper = ih r f in omega arith

    go : (b : Bool) → test x ≡ b → cond b (Some (option_map_or (min x.pos) (least_struck test xs) x.pos)) (least_struck test xs) ≡ Some q
        → ((r : ℕ) → Floor → least_struck test xs ≡ Some r → p ≤ r) → Floor → (test x ≡ true → p ≤ x.pos) → p ≤ q
    go true t f ih rest here = pick (here t) (least_struck test xs) refl (cc f) (λ r g. ih r rest g)
    go false t f ih rest here = ih q rest f

-- what is struck is no later than any fault that passes
floor : (test : Fault → Bool) (faults : List Fault) (q k : ℕ) (d : Fault) → k < length faults → test (get_or faults k d) ≡ true
    → least_struck test faults ≡ Some q → q ≤ (get_or faults k d).pos
floor test [] q k d l t e = absurd (omega arith)
floor test (x ∷ xs) q zero d l t e = go (test x) t e
  where
    pick : (o : Option ℕ) → option_map_or (min x.pos) o x.pos ≡ q → q ≤ x.pos
    pick None is = omega arith
    pick (Some r) is = omega arith

    go : (b : Bool) → b ≡ true → cond b (Some (option_map_or (min x.pos) (least_struck test xs) x.pos)) (least_struck test xs) ≡ Some q
        → q ≤ x.pos
    go true is f = pick (least_struck test xs) (cc f)
    go false is f = absurd (false≢true is)
floor test (x ∷ xs) q (suc k) d l t e = go (test x) e (λ r. floor test xs r k d (omega arith) t)
  where
    pick : (o : Option ℕ) → least_struck test xs ≡ o → option_map_or (min x.pos) o x.pos ≡ q
        → ((r : ℕ) → least_struck test xs ≡ Some r → r ≤ (get_or xs k d).pos) → q ≤ (get_or xs k d).pos
    pick None f is ih =
        let none = none-among test xs (get_or xs k d) f (k, omega arith, get_or_default xs k (get_or xs k d) d (omega arith)) in
        absurd (both_ways (test (get_or xs k d)) none t)
    pick (Some r) f is ih = let deeper = ih r f in omega arith

    go : (b : Bool) → cond b (Some (option_map_or (min x.pos) (least_struck test xs) x.pos)) (least_struck test xs) ≡ Some q
        → ((r : ℕ) → least_struck test xs ≡ Some r → r ≤ (get_or xs k d).pos) → q ≤ (get_or xs k d).pos
    go true f ih = pick (least_struck test xs) refl (cc f) ih
    go false f ih = ih q f

-- an element at a place stands in the list
at-index : (faults : List Fault) (k : ℕ) (d : Fault) → k < length faults → Contains faults (get_or faults k d)
at-index faults k d l = (k, l, get_or_default faults k (get_or faults k d) d l)

-- a least position of what passes is what is struck
pub least-is : (test : Fault → Bool) (faults : List Fault) (o : Option ℕ) → IsLeastOf test faults o → o ≡ least_struck test faults
least-is test faults None none = sym (none-left test faults none)
least-is test faults (Some p) found = go (least_struck test faults) refl
  where
    member : Contains faults found.0.0
    member = found.0.1

    go : (o : Option ℕ) → least_struck test faults ≡ o → Some p ≡ o
    go None e = absurd (both_ways (test found.0.0) (none-among test faults found.0.0 e member) found.0.2)
    go (Some q) e =
        let up = bounded test faults p q (λ k d l t. found.1 (get_or faults k d) (at-index faults k d l) t) e in
        let down = floor test faults q member.0 found.0.0 member.1 (ap test member.2 ∙ found.0.2) e in
        let here : (get_or faults member.0 found.0.0).pos ≡ p = ap (λ (f : Fault). f.pos) member.2 ∙ found.0.3 in
        ap Some (omega arith)

-- it is that of the same faults in another order
pub least-moved : (test : Fault → Bool) (given list : List Fault) (o : Option ℕ) → IsPermutation given list → IsLeastOf test list o
    → IsLeastOf test given o
least-moved test given list None same none = λ fault member. none fault (Contains-permutation given list fault same member)
least-moved test given list (Some p) same found = (
  (
    found.0.0,
    Contains-permutation list given found.0.0 (IsPermutation-sym given list same) found.0.1,
    found.0.2,
    found.0.3,
  ),
  λ fault member t. found.1 fault (Contains-permutation given list fault same member) t,
)

-- a walk over faults by position

abbrev pub Misses : (Fault → Bool) → List Fault → ℕ → ℕ → Type 0
Misses test faults low high = AllWithin (λ fault. test fault ≡ false) faults low high

-- where none passes at any place
pub none-found : (test : Fault → Bool) (faults : List Fault) (i : ℕ) → length faults ≤ i → Misses test faults 0 i → IsLeastOf test faults None
none-found test faults i l missed =
    λ fault member. sym (ap test member.2) ∙ missed member.0 fault (omega arith) (let within = member.1 in omega arith)

-- the first that passes is the least
pub first-found : (test : Fault → Bool) (faults : List Fault) (i : ℕ) (d : Fault) → IsNonDecreasingBy (λ fault. fault.pos) faults
    → i < length faults → Misses test faults 0 i → test (get_or faults i d) ≡ true → IsLeastOf test faults (Some (get_or faults i d).pos)
first-found test faults i d rises l missed t = ((get_or faults i d, at-index faults i d l, t, refl), least)
  where
    least : (fault : Fault) → Contains faults fault → test fault ≡ true → (get_or faults i d).pos ≤ fault.pos
    least fault member passes =
        elim (cases_lt member.0 i) [
          | inl before ↦
              absurd (both_ways (test fault) (sym (ap test member.2) ∙ missed member.0 fault (omega arith) before) passes)
          | inr after ↦
              (let up = rises i member.0 d after member.1 in
              let there : (get_or faults member.0 d).pos ≡ fault.pos =
              ap (λ (f : Fault). f.pos) (get_or_default faults member.0 d fault member.1 ∙ member.2) in
              omega arith)
        ]

-- one more place where none passes
pub missed-more : (test : Fault → Bool) (faults : List Fault) (i : ℕ) (d : Fault) → i < length faults → Misses test faults 0 i
    → test (get_or faults i d) ≡ false → Misses test faults 0 (i + 1)
missed-more test faults i d l missed f k e low high =
    elim (cases_lt k i) [
      | inl before ↦ missed k e low before
      | inr after ↦
          (let same : k ≡ i = omega arith in
          ap test (ap (λ j. get_or faults j e) same ∙ get_or_default faults i e d l) ∙ f)
    ]

-- none passes at the places of two walks, of which the second begins where the first ends
pub missed-then : (test : Fault → Bool) (faults : List Fault) (i j : ℕ) → Misses test faults 0 i → Misses test faults i j
    → Misses test faults 0 j
missed-then test faults i j first second k d low high =
    elim (cases_lt k i) [
      | inl before ↦ first k d low before
      | inr after ↦ second k d after high
    ]

-- a fault whose position is not in the list does not strike
unlisted : (any : Bool) (entries : List Entry) (front : ℕ) (fault : Fault) → entry_at entries fault.pos ≡ None
    → strikes any entries front fault ≡ false
unlisted any entries front fault is = ap (strikes_entry any front fault) is

-- entries

-- no entry stands past the last
pub none-from : (entries : List Entry) (p : ℕ) → IsInRow entries → first_position entries + length entries ≤ p → entry_at entries p ≡ None
none-from entries p row far = go (entry_at entries p) refl
  where
    go : (o : Option Entry) → entry_at entries p ≡ o → o ≡ None
    go None is = refl
    go (Some e) is = let within = from-first (first_position entries) entries p e row is in absurd (omega (arith, within.0, within.1))

-- nor before the first
none-to : (entries : List Entry) (p : ℕ) → IsInRow entries → p < first_position entries → entry_at entries p ≡ None
none-to entries p row near = go (entry_at entries p) refl
  where
    go : (o : Option Entry) → entry_at entries p ≡ o → o ≡ None
    go None is = refl
    go (Some e) is = let within = from-first (first_position entries) entries p e row is in absurd (omega (arith, within.0, within.1))

-- what stands in a row from anywhere is in a row
pub in-row : (b : ℕ) (entries : List Entry) → StandFrom b entries → IsInRow entries
in-row b [] stands = stands
in-row b (e ∷ entries) stands = subst (λ q. StandFrom q (e ∷ entries)) (sym stands.0) stands

-- a walk over the faults on entries

-- from a fault past the last entry on none strikes
pub none-past : (any : Bool) (entries : List Entry) (front : ℕ) (faults : List Fault) (i first : ℕ) (d : Fault)
    → IsNonDecreasingBy (λ fault. fault.pos) faults → i < length faults
    → IsInRow entries → first ≡ first_position entries → length entries ≤ (get_or faults i d).pos - first
    → Misses (strikes any entries front) faults 0 i → IsLeastOf (strikes any entries front) faults None
none-past any entries front faults i first d rises l row is far missed =
    none-found (strikes any entries front) faults (length faults) (omega arith) all
  where
    off : (p : ℕ) → length entries ≤ p - first → entry_at entries p ≡ None
    off p past =
        elim (cases_lt p first) [
          | inl near ↦ none-to entries p row (omega arith)
          | inr beyond ↦ none-from entries p row (omega arith)
        ]

    all : Misses (strikes any entries front) faults 0 (length faults)
    all k e low high =
        elim (cases_lt k i) [
          | inl before ↦ missed k e low before
          | inr after ↦
              (let up = rises i k d after high in
              let there : (get_or faults k d).pos ≡ (get_or faults k e).pos = ap (λ (f : Fault). f.pos) (get_or_default faults k d e high) in
              unlisted any entries front (get_or faults k e) (off (get_or faults k e).pos (omega arith)))
        ]

-- where there is no entry none strikes
pub none-empty : (any : Bool) (entries : List Entry) (front : ℕ) (faults : List Fault) → entries ≡ []
    → None ≡ least_struck (strikes any entries front) faults
none-empty any entries front faults is =
    least-is (strikes any entries front) faults None
    (λ fault member. unlisted any entries front fault (ap (λ es. entry_at es fault.pos) is))

-- the oldest entry
pub oldest-none : (entries : List Entry) → slice_get entries 0 ≡ None → entries ≡ []
oldest-none [] is = refl
oldest-none (e ∷ entries) is = absurd (cc is)

pub oldest-some : (entries : List Entry) (e : Entry) → slice_get entries 0 ≡ Some e → e.pos ≡ first_position entries
oldest-some [] e is = absurd (cc is)
oldest-some (x ∷ entries) e is = ap (λ (y : Entry). y.pos) (let same : x ≡ e = cc is in sym same)

-- keys

-- one key is of one position and attempt
key-one : (p q a b : ℕ) → a < 4294967296 → b < 4294967296 → key_of p a ≡ key_of q b → (p ≡ q) × (a ≡ b)
key-one p q a b l m same = (omega arith, omega arith)

-- the mask of a fault at a place
masked-at : (faults : List Fault) (k : ℕ) (d : Fault) (p attempt : ℕ) → IsDistinct strikes_same faults → k < length faults
    → (get_or faults k d).pos ≡ p → (get_or faults k d).attempt ≡ attempt → (get_or faults k d).mask ≡ mask_of faults p attempt
masked-at [] k d p attempt apart l at same = absurd (omega arith)
masked-at (y ∷ ys) zero d p attempt apart l at same = rw (eq-eqb y.pos p at, eq-eqb y.attempt attempt same) refl
masked-at (y ∷ ys) (suc k) d p attempt apart l at same =
    let other = apart_from_distinct strikes_same (y ∷ ys) 0 (suc k) d apart (omega arith) l in
    let off : (nat_eq y.pos p && nat_eq y.attempt attempt) ≡ false
    = sym (λ i. nat_eq y.pos (at i) && nat_eq y.attempt (same i)) ∙ other in
    rw off (masked-at ys k d p attempt (IsDistinct-tail strikes_same y ys apart) (omega arith) at same)

-- a mask is 0 where no fault names the attempt
pub unmasked : (faults : List Fault) (p attempt : ℕ) → ¬ NamesAttempt faults p attempt → mask_of faults p attempt ≡ pos 0
unmasked [] p attempt free = refl
unmasked (fault ∷ rest) p attempt free =
    go (nat_eq fault.pos p && nat_eq fault.attempt attempt) refl
    (unmasked rest p attempt (λ n. free (n.0, Contains-later fault rest n.0 n.1, n.2, n.3)))
  where
    go : (b : Bool) → (nat_eq fault.pos p && nat_eq fault.attempt attempt) ≡ b → mask_of rest p attempt ≡ pos 0
        → cond b fault.mask (mask_of rest p attempt) ≡ pos 0
    go true e ih =
        absurd (let h = and_parts (nat_eq fault.pos p) (nat_eq fault.attempt attempt) e in
        free (fault, Contains-head fault rest, eqb-true fault.pos p h.0, eqb-true fault.attempt attempt h.1))
    go false e ih = ih

-- faults that rise by position and attempt
module _ (list : List Fault) (ranged : All IsInRange list) (rises : IsNonDecreasingBy rank list) where
  few : (k : ℕ) (d : Fault) → k < length list → (get_or list k d).attempt < 4294967296
  few k d l = (All-get_or IsInRange list k d l ranged).attempt

  pub by-position : IsNonDecreasingBy (λ fault. fault.pos) list
  by-position i j d le l =
      let first = few i d (omega arith) in
      let later = few j d l in
      let up : key_of (get_or list i d).pos (get_or list i d).attempt ≤ key_of (get_or list j d).pos (get_or list j d).attempt
      = rises i j d le l in
      omega arith

  -- from a fault whose position has an entry on, up to the first that is not before an attempt: the faults between name no present attempt,
  -- where that attempt is the present one, or that of the fault is later than it
  module _ (any : Bool) (entries : List Entry) (front at stop place : ℕ) (d : Fault) (e : Entry)
      (within : at < length list) (most : place ≤ length list) (small : stop < 4294967296)
      (is_there : entry_at entries (get_or list at d).pos ≡ Some e)
      (before : AllWithin (λ fault. rank fault < key_of (get_or list at d).pos stop) list 0 place)
      (far : (stop ≡ e.attempt) ⊎ (e.attempt < (get_or list at d).attempt)) where
    between : (k : ℕ) → at + 1 ≤ k → k < place → ((get_or list k d).pos ≡ (get_or list at d).pos)
        × ((get_or list at d).attempt ≤ (get_or list k d).attempt) × ((get_or list k d).attempt < stop)
    between k low high =
        let first = few at d within in
        let here = few k d (omega arith) in
        let up : key_of (get_or list at d).pos (get_or list at d).attempt ≤ key_of (get_or list k d).pos (get_or list k d).attempt
        = rises at k d (omega arith) (omega arith) in
        let down : key_of (get_or list k d).pos (get_or list k d).attempt < key_of (get_or list at d).pos stop
        = before k d (omega arith) high in
        (omega arith, omega arith, omega arith)

    apart : (attempt : ℕ) → (get_or list at d).attempt ≤ attempt → attempt < stop → attempt ≡ e.attempt → ⊥
    apart attempt up down same =
        elim far [
          | inl present ↦ omega arith
          | inr later ↦ omega arith
        ]

    misnamed : (fault : Fault) → fault.pos ≡ (get_or list at d).pos → (fault.attempt ≡ e.attempt → ⊥) → strikes any entries front fault ≡ false
    misnamed fault same other =
        ap (strikes_entry any front fault) (ap (entry_at entries) same ∙ is_there)
        ∙ ap (λ b. b && (any || nat_le (e.begun + fault.delay) front)) (ne_eqb fault.attempt e.attempt other)

    pub passed-over : Misses (strikes any entries front) list (at + 1) (max place (at + 1))
    passed-over k x low high =
        let is = between k low (omega arith) in
        ap (strikes any entries front) (get_or_default list k x d (omega arith))
        ∙ misnamed (get_or list k d) is.0 (apart (get_or list k d).attempt is.1 is.2)

module _ (faults : Faults) (list : List Fault) (order : AreInOrder faults.list list) where
  pub in-range : All IsInRange list
  in-range = All-permutation IsInRange faults.list list order.same faults.in_range

  short : (k : ℕ) (d : Fault) → k < length list → (get_or list k d).attempt < 4294967296
  short k d l = (All-get_or IsInRange list k d l in-range).attempt

  -- none before the first entry strikes
  pub none-before : (any : Bool) (entries : List Entry) (front low : ℕ) → IsInRow entries → low ≤ length list
      → AllWithin (λ fault. rank fault < key_of (first_position entries) 0) list 0 low
      → Misses (strikes any entries front) list 0 low
  none-before any entries front low row within before k d l h =
      let less : key_of (get_or list k d).pos (get_or list k d).attempt < key_of (first_position entries) 0 = before k d l h in
      unlisted any entries front (get_or list k d) (none-to entries (get_or list k d).pos row (omega arith))

  -- the mask of a fault that names the attempt
  pub mask-found : (p attempt i : ℕ) (x : Fault) → i < length list → x ≡ get_or list i x → x.pos ≡ p → x.attempt ≡ attempt
      → x.mask ≡ mask_of faults.list p attempt
  mask-found p attempt i x l is at same =
      let member = Contains-permutation list faults.list x (IsPermutation-sym faults.list list order.same) (i, l, sym is) in
      ap (λ (f : Fault). f.mask) (sym member.2)
      ∙ masked-at faults.list member.0 x p attempt faults.apart member.1 (ap (λ (f : Fault). f.pos) member.2 ∙ at)
      (ap (λ (f : Fault). f.attempt) member.2 ∙ same)

  -- there is none where that at the place of the attempt does not name it
  pub mask-none : (p attempt place : ℕ) → attempt < 4294967296
      → AllWithin (λ fault. rank fault < key_of p attempt) list 0 place
      → AllWithin (λ fault. key_of p attempt ≤ rank fault) list place (length list)
      → ((d : Fault) → place < length list → (get_or list place d).pos ≡ p → (get_or list place d).attempt ≡ attempt → ⊥)
      → pos 0 ≡ mask_of faults.list p attempt
  mask-none p attempt place small before from other = sym (unmasked faults.list p attempt free)
    where
      free : ¬ NamesAttempt faults.list p attempt
      free n =
          let member = Contains-permutation faults.list list n.0 order.same n.1 in
          let key : key_of (get_or list member.0 n.0).pos (get_or list member.0 n.0).attempt ≡ key_of p attempt
          = λ i. key_of ((ap (λ (f : Fault). f.pos) member.2 ∙ n.2) i) ((ap (λ (f : Fault). f.attempt) member.2 ∙ n.3) i) in
          elim (cases_lt member.0 place) [
            | inl less ↦
                (let low : key_of (get_or list member.0 n.0).pos (get_or list member.0 n.0).attempt < key_of p attempt
                = before member.0 n.0 (omega arith) less in
                absurd (omega arith))
            | inr more ↦
                (let l = member.1 in
                let here : place < length list = omega arith in
                let up : key_of (get_or list place n.0).pos (get_or list place n.0).attempt
                ≤ key_of (get_or list member.0 n.0).pos (get_or list member.0 n.0).attempt
                = order.rises place member.0 n.0 more member.1 in
                let down : key_of p attempt ≤ key_of (get_or list place n.0).pos (get_or list place n.0).attempt
                = from place n.0 (omega arith) here in
                let one = key-one (get_or list place n.0).pos p (get_or list place n.0).attempt attempt (short place n.0 here) small
                (omega arith) in
                other n.0 here one.0 one.1)
          ]

  -- the same of what a lookup finds, as it is read
  pub mask-read : (p attempt i : ℕ) (x : Fault) → slice_get list i ≡ Some x → x.pos ≡ p → x.attempt ≡ attempt
      → to_z w64 (of_z w64 x.mask) ≡ mask_of faults.list p attempt
  mask-read p attempt i x found at same =
      let l = slice_get_within list i x found in
      let is = get_or_from_slice_get list i x x found in
      let fits = subst (λ (f : Fault). FitsSigned w64 f.mask) is (All-get_or IsInRange list i x l in-range).mask in
      to_z-of_z w64 x.mask fits ∙ mask-found p attempt i x l (sym is) at same

  pub mask-unread : (p attempt place : ℕ) → attempt < 4294967296
      → AllWithin (λ fault. rank fault < key_of p attempt) list 0 place
      → AllWithin (λ fault. key_of p attempt ≤ rank fault) list place (length list)
      → ((x : Fault) → slice_get list place ≡ Some x → x.pos ≡ p → x.attempt ≡ attempt → ⊥)
      → pos 0 ≡ mask_of faults.list p attempt
  mask-unread p attempt place small before from other =
      mask-none p attempt place small before from
      (λ d l at same. other (get_or list place d) (slice_get-get_or list place d l) at same)
