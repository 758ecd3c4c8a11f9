-- Places among bundles.
use Rattle.std.proofs.Common.{◌≡◌, ℕ, zero, suc, ◌+◌, ◌<◌, List, [], ◌∷◌, length, map, get_or, set, Some, None, sym, ap, ◌∙◌, subst, arith}
use Rattle.std.specs.Prelude.{ℤ, All, slice_get, slice_set}
use Rattle.std.specs.List.{Contains}
use Rattle.std.specs.List.Sorted.{IsStrictlyIncreasing}
use Rattle.std.proofs.lemmas.Option.{slice_get_within}
use Rattle.task_ast.specs.meaning.State.{number_at}
use Rattle.task_ast.specs.meaning.Under.{under_lock}
use Rattle.record_store.specs.declared.given.Bundle.{Bundle}
use Rattle.record_store.specs.Lent.{lock_in}
use Rattle.record_store.proofs.Stocked.{contains-at, apart}
use Rattle.subthread.specs.Places.{IsPlaceIn}
use Rattle.subthread.specs.inner.Places.{Lacks, AllLack, StandsAt, HasPlace, value_at, with_value}

pub place_within : (bundles : List Bundle) (i k : ℕ) → HasPlace bundles i k → i < length bundles
place_within [] i k has = absurd has
place_within (b ∷ bundles) zero k has = omega arith
place_within (b ∷ bundles) (suc i) k has = let rest = place_within bundles i k has in omega arith

pub place_less : (bundles : List Bundle) (i k : ℕ) (b : Bundle) → HasPlace bundles i k → b ≡ get_or bundles i b → k < length b.cells
place_less [] i k b has is = absurd has
place_less (x ∷ bundles) zero k b has is = subst (λ (y : Bundle). k < length y.cells) (sym is) has
place_less (x ∷ bundles) (suc i) k b has is = place_less bundles i k b has is

pub value_is : (bundles : List Bundle) (i k : ℕ) (b : Bundle) → HasPlace bundles i k → b ≡ get_or bundles i b
    → number_at b.cells k ≡ value_at bundles i k
value_is [] i k b has is = absurd has
value_is (x ∷ bundles) zero k b has is = ap (λ (y : Bundle). number_at y.cells k) is
value_is (x ∷ bundles) (suc i) k b has is = value_is bundles i k b has is

pub set_is : (bundles : List Bundle) (i k : ℕ) (b : Bundle) (v : ℤ) → HasPlace bundles i k → b ≡ get_or bundles i b
    → set bundles i (record { lock = b.lock; cells = slice_set b.cells k v }) ≡ with_value i k v bundles
set_is [] i k b v has is = absurd has
set_is (x ∷ bundles) zero k b v has is = ap (λ (y : Bundle). record { lock = y.lock; cells = slice_set y.cells k v } ∷ bundles) is
set_is (x ∷ bundles) (suc i) k b v has is = ap (λ bs. x ∷ bs) (set_is bundles i k b v has is)

-- ---- what a search finds

get-index : (xs : List ℕ) (k c : ℕ) → slice_get xs k ≡ Some c → get_or xs k 0 ≡ c
get-index [] k c is = absurd (cc is)
get-index (x ∷ xs) zero c is = cc is
get-index (x ∷ xs) (suc k) c is = get-index xs k c is

index-get : (xs : List ℕ) (k c : ℕ) → k < length xs → get_or xs k 0 ≡ c → slice_get xs k ≡ Some c
index-get [] k c less is = absurd (omega arith)
index-get (x ∷ xs) zero c less is = ap Some is
index-get (x ∷ xs) (suc k) c less is = index-get xs k c (omega arith) is

module _ (under : List (List ℕ)) (over : List ℕ) (cell : ℕ) where
  -- no bundle has a cell over which another lock stands
  lacks : (over_is : (cell lock : ℕ) → Contains (under_lock under lock) cell → slice_get over cell ≡ Some lock) (b : Bundle)
      → (slice_get over cell ≡ Some b.lock → ⊥) → Lacks under cell b
  lacks over_is b apart j is = apart (over_is cell b.lock (contains-at (under_lock under b.lock) j cell is))

  pub none_over : (over_is : (cell lock : ℕ) → Contains (under_lock under lock) cell → slice_get over cell ≡ Some lock)
      (bundles : List Bundle) → slice_get over cell ≡ None → AllLack under cell bundles
  none_over over_is [] none = tt
  none_over over_is (b ∷ bundles) none = (lacks over_is b (λ is. let both = sym none ∙ is in cc both), none_over over_is bundles none)

  module _ (over_is : (cell lock : ℕ) → Contains (under_lock under lock) cell → slice_get over cell ≡ Some lock) (lock : ℕ)
      (is_over : slice_get over cell ≡ Some lock) where
    other : (b : Bundle) → (b.lock ≡ lock → ⊥) → Lacks under cell b
    other b differ =
        lacks over_is b (λ is. let both : Some lock ≡ Some b.lock = sym is_over ∙ is in let same : lock ≡ b.lock = cc both in
        differ (sym same))

    pub none_bundled : (bundles : List Bundle) → IsPlaceIn (map lock_in bundles) lock None → AllLack under cell bundles
    none_bundled [] none = tt
    none_bundled (b ∷ bundles) none = (other b (none 0 (omega arith)), none_bundled bundles (λ k less. none (suc k) (omega arith)))

    -- the locks after the one rise above it
    rises_on : (x : ℕ) (xs : List ℕ) → IsStrictlyIncreasing (x ∷ xs) → IsStrictlyIncreasing xs
    rises_on x xs up k below = let next : suc k + 1 ≡ suc (k + 1) = omega arith in rw next at (up (suc k) (omega arith))

    later : (locks : List ℕ) → IsStrictlyIncreasing locks → (i k : ℕ) → i < k → k < length locks → get_or locks i 0 ≡ lock
        → get_or locks k 0 ≡ lock → ⊥
    later locks up i k less inside left right =
        let more = apart locks up i k lock lock (index-get locks i lock (omega arith) left) (index-get locks k lock inside right) less in
        omega arith

    pub none_placed : (bundles : List Bundle) → IsPlaceIn (under_lock under lock) cell None → AllLack under cell bundles
    none_placed [] none = tt
    none_placed (b ∷ bundles) none = (
      λ j is.
          let same : lock ≡ b.lock =
          (let both : Some lock ≡ Some b.lock = sym is_over ∙ over_is cell b.lock (contains-at (under_lock under b.lock) j cell is) in
          cc both) in
          let there = subst (λ l. slice_get (under_lock under l) j ≡ Some cell) (sym same) is in
          none j (slice_get_within (under_lock under lock) j cell there) (get-index (under_lock under lock) j cell there),
      none_placed bundles none,
    )

    pub all_others : (bundles : List Bundle) → ((k : ℕ) → k < length (map lock_in bundles) → get_or (map lock_in bundles) k 0 ≡ lock → ⊥)
        → AllLack under cell bundles
    all_others [] none = tt
    all_others (b ∷ bundles) none = (other b (none 0 (omega arith)), all_others bundles (λ k less. none (suc k) (omega arith)))

    pub stands_so : (rises : IsStrictlyIncreasing (under_lock under lock)) (bundles : List Bundle) (i k : ℕ)
        → IsStrictlyIncreasing (map lock_in bundles)
        → All (λ (b : Bundle). length b.cells ≡ length (under_lock under b.lock)) bundles
        → IsPlaceIn (map lock_in bundles) lock (Some i) → IsPlaceIn (under_lock under lock) cell (Some k) → StandsAt under cell i k bundles
    stands_so rises [] i k up sizes at place = absurd (let less = at.0 in omega arith)
    stands_so rises (b ∷ bundles) zero k up sizes at place = (
      record {
        there = subst (λ l. slice_get (under_lock under l) k ≡ Some cell) (sym at.1) there;
        once = λ j is. once j (subst (λ l. slice_get (under_lock under l) j ≡ Some cell) at.1 is);
        size = sizes 0 b (omega arith);
      },
      all_others bundles (λ n less is. later (b.lock ∷ map lock_in bundles) up 0 (suc n) (omega arith) (omega arith) at.1 is),
    )
      where
        there : slice_get (under_lock under lock) k ≡ Some cell
        there = index-get (under_lock under lock) k cell place.0 place.1

        once : (j : ℕ) → slice_get (under_lock under lock) j ≡ Some cell → j ≡ k
        once j is = grind (
          arith,
          λ (less : j < k). apart (under_lock under lock) rises j k cell cell is there less,
          λ (less : k < j). apart (under_lock under lock) rises k j cell cell there is less,
        )
    stands_so rises (b ∷ bundles) (suc i) k up sizes at place = (
      other b (λ same. later (b.lock ∷ map lock_in bundles) up 0 (suc i) (omega arith) (omega (arith, at.0)) same at.1),
      stands_so rises bundles i k (rises_on b.lock (map lock_in bundles) up) (λ n d less. sizes (suc n) d (omega arith))
          (omega (arith, at.0), at.1) place,
    )
