-- What a binary search finds among keys that rise.
use Rattle.std.proofs.Common.{◌≡◌, ℕ, zero, suc, ◌+◌, ◌<◌, ◌≤◌, List, [], ◌∷◌, length, map, get_or, Result, Ok, Err, sym, ap, ◌∙◌, arith, inl, inr}
use Rattle.std.specs.List.Sorted.{IsStrictlyIncreasing, IsSearchInRange, IsBinarySearchResult, IsNonDecreasingBy}
use Rattle.std.specs.Ordering.{nat_cmp, ordering_index}
use Rattle.std.specs.Result.{result_ok}
use Rattle.std.proofs.lemmas.Bool.{cases_lt}
use Rattle.std.proofs.lemmas.Bool.Decides.{nat_tests}
use Rattle.std.proofs.lemmas.Cmp.{ranked}
use Rattle.std.proofs.lemmas.List.{get_or-map, length-map}
use Rattle.std.proofs.lemmas.List.Sorted.{IsNonDecreasingBy-from_default}
use Rattle.subthread.specs.Places.{IsPlaceIn}

-- each number is below all that stand after it
pub far : (xs : List ℕ) → IsStrictlyIncreasing xs → (i j : ℕ) → i < j → j < length xs → get_or xs i 0 < get_or xs j 0
far xs rises i zero less inside = absurd (omega arith)
far xs rises i (suc j) less inside =
    let next : j + 1 ≡ suc j = omega arith in
    let step = rw next at (rises j (omega arith)) in
    elim (cases_lt i j) [
      | inl before ↦ (let so_far = far xs rises i j before (omega arith) in omega arith)
      | inr not_before ↦ (let same : i ≡ j = omega arith in rw same step)
    ]

-- so do those after the first
pub rises_on : (x : ℕ) (xs : List ℕ) → IsStrictlyIncreasing (x ∷ xs) → IsStrictlyIncreasing xs
rises_on x xs rises k below = let next : suc k + 1 ≡ suc (k + 1) = omega arith in rw next at (rises (suc k) (omega arith))

module _ {X : Type 0} (key : X → ℕ) (xs : List X) (rises : IsStrictlyIncreasing (map key xs)) (n : ℕ) (d : X) where
  at : (i : ℕ) → i < length xs → get_or (map key xs) i 0 ≡ key (get_or xs i d)
  at i inside = get_or-map key xs i d 0 inside

  many : length (map key xs) ≡ length xs
  many = length-map xs key

  keys_rise : (i j : ℕ) → i < j → j < length xs → key (get_or xs i d) < key (get_or xs j d)
  keys_rise i j less inside =
      let there = far (map key xs) rises i j less (omega (arith, many)) in
      let left = at i (omega arith) in
      let right = at j inside in
      omega arith

  -- the comparisons rise, as a binary search asks
  comparisons_rise : IsNonDecreasingBy (λ x. ordering_index (nat_cmp (key x) n)) xs
  comparisons_rise = IsNonDecreasingBy-from_default (λ x. ordering_index (nat_cmp (key x) n)) xs d (λ i j le inside.
      let rise : key (get_or xs i d) ≤ key (get_or xs j d) =
      grind (arith, keys_rise i j, λ (same : i ≡ j). ap (λ k. key (get_or xs k d)) same) in
      grind (arith, nat_tests))

  searched_from : (r : Result ℕ ℕ) → IsSearchInRange r (length xs) → IsBinarySearchResult (λ x. nat_cmp (key x) n) xs r
      → IsPlaceIn (map key xs) n (result_ok r)
  searched_from (Ok k) inside equal = (omega (arith, many), at k inside ∙ ranked _ n _ (sym (equal d)))
  searched_from (Err gap) inside parted = λ k below same.
      let in_xs : k < length xs = omega (arith, many) in
      let found = sym (at k in_xs) ∙ same in
      elim (cases_lt k gap) [
        | inl before ↦ (let less = ranked _ n _ (sym ((parted comparisons_rise).0 k d (omega arith) before)) in omega arith)
        | inr behind ↦ (let more = ranked _ n _ (sym ((parted comparisons_rise).1 k d behind in_xs)) in omega arith)
      ]

nothing : (n : ℕ) (r : Result ℕ ℕ) → IsSearchInRange r 0 → IsPlaceIn [] n (result_ok r)
nothing n (Ok k) inside = absurd (omega arith)
nothing n (Err gap) inside = λ k below same. omega arith

pub searched : {X : Type 0} (key : X → ℕ) (xs : List X) → IsStrictlyIncreasing (map key xs) → (n : ℕ) (r : Result ℕ ℕ)
    → IsSearchInRange r (length xs) → IsBinarySearchResult (λ x. nat_cmp (key x) n) xs r
    → IsPlaceIn (map key xs) n (result_ok r)
searched key [] rises n r inside found = nothing n r inside
searched key (x ∷ xs) rises n r inside found = searched_from key (x ∷ xs) rises n x r inside found
