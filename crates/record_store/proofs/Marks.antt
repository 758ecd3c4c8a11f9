-- Locks that are marked.
use Rattle.std.proofs.Common.{◌≡◌, inl, inr, ℕ, suc, ◌<◌, Bool, true, false, cond, ◌||◌, nat_eq, List, [], ◌∷◌, length, Contains, Some, refl, sym, ap, ◌∙◌, arith, slice_get}
use Rattle.std.specs.Prelude.{All, slice_set}
use Rattle.std.proofs.lemmas.Bool.{cases_lt, eqb-true, eqb-false}
use Rattle.std.proofs.lemmas.List.Elements.{All-contains}
use Rattle.std.proofs.lemmas.Option.{slice_get_within}
use Rattle.task_ast.proofs.IssuedTables.{get_set_here, get_set_other, get_past, length_set}
use Rattle.dependence.specs.meaning.Dependents.{is_member}
use Rattle.dependence.proofs.DependentSets.{is_member-is}
use Rattle.record_store.specs.Lent.{marked}

pub length-marked : (locks : List ℕ) (b : Bool) (away : List Bool) → length (marked locks b away) ≡ length away
length-marked [] b away = refl
length-marked (x ∷ locks) b away = length_set (marked locks b away) x b ∙ length-marked locks b away

-- a lock has the mark where it is among those that are marked, and what it had elsewhere
got-marked : (locks : List ℕ) (b : Bool) (away : List Bool) (l : ℕ) → l < length away
    → slice_get (marked locks b away) l ≡ cond (is_member l locks) (Some b) (slice_get away l)
got-marked [] b away l less = refl
got-marked (x ∷ locks) b away l less = go (nat_eq l x) refl (got-marked locks b away l less)
  where
    go : (t : Bool) → nat_eq l x ≡ t → slice_get (marked locks b away) l ≡ cond (is_member l locks) (Some b) (slice_get away l)
        → slice_get (slice_set (marked locks b away) x b) l ≡ cond (t || is_member l locks) (Some b) (slice_get away l)
    go true same rest =
        let here = eqb-true l x same in
        ap (λ n. slice_get (slice_set (marked locks b away) x b) n) here
        ∙ get_set_here (marked locks b away) x b (let many = length-marked locks b away in omega arith)
    go false differ rest = get_set_other (marked locks b away) x l b (eqb-false l x differ) ∙ rest

pub marked-in : (locks : List ℕ) (b : Bool) (away : List Bool) (l : ℕ) → l < length away → Contains locks l
    → slice_get (marked locks b away) l ≡ Some b
marked-in locks b away l less there =
    got-marked locks b away l less ∙ ap (λ t. cond t (Some b) (slice_get away l)) ((is_member-is l locks).1 there)

pub marked-out : (locks : List ℕ) (b : Bool) (away : List Bool) (l : ℕ) → is_member l locks ≡ false
    → slice_get (marked locks b away) l ≡ slice_get away l
marked-out locks b away l lacks =
    elim (cases_lt l (length away)) [
      | inl less ↦ got-marked locks b away l less ∙ ap (λ t. cond t (Some b) (slice_get away l)) lacks
      | inr past ↦ get_past (marked locks b away) l (let many = length-marked locks b away in omega arith) ∙ sym (get_past away l past)
    ]

same-list : (xs ys : List Bool) → ((k : ℕ) → slice_get xs k ≡ slice_get ys k) → xs ≡ ys
same-list [] [] same = refl
same-list [] (y ∷ ys) same = absurd (let first = same 0 in cc first)
same-list (x ∷ xs) [] same = absurd (let first = same 0 in cc first)
same-list (x ∷ xs) (y ∷ ys) same =
    let first : x ≡ y = (let it = same 0 in cc it) in
    let rest = same-list xs ys (λ k. same (suc k)) in λ i. first i ∷ rest i

-- what went out and came back is as it was
pub marked-back : (locks : List ℕ) (away : List Bool) → All (λ l. slice_get away l ≡ Some false) locks
    → marked locks false (marked locks true away) ≡ away
marked-back locks away home = same-list (marked locks false (marked locks true away)) away (λ l. go l (is_member l locks) refl)
  where
    go : (l : ℕ) (b : Bool) → is_member l locks ≡ b → slice_get (marked locks false (marked locks true away)) l ≡ slice_get away l
    go l true among =
        let there = (is_member-is l locks).0 among in
        let was = All-contains (λ l. slice_get away l ≡ Some false) locks l home there in
        let less = slice_get_within away l false was in
        marked-in locks false (marked locks true away) l (let many = length-marked locks true away in omega arith) there ∙ sym was
    go l false lacks = marked-out locks false (marked locks true away) l lacks ∙ marked-out locks true away l lacks
