-- What the members of a list count, from sums over all of them.
use Rattle.std.proofs.Common.{◌≡◌, ℕ, zero, suc, ◌≤◌, List, [], ◌∷◌, sym, refl, ap, subst, arith}
use Rattle.std.specs.Prelude.{sum_by}
use Rattle.std.proofs.lemmas.List.Sums.{sum_by-cons}
use mathlib.Core.Option.{some, some-injective, some-ne-none}
use lib.ListN.{get_elem?}
use Rattle.desk_board.proofs.Tallies.{tally_part}

module _ {A : Type 0} where
  -- where a sum is at most 1, no two members count
  pub counted_once : (f : A → ℕ) (xs : List A) → sum_by f xs ≤ 1 → (i j : ℕ) (x y : A) → get_elem? xs i ≡ some x → get_elem? xs j ≡ some y
      → 1 ≤ f x → 1 ≤ f y → i ≡ j
  counted_once f [] low i j x y ex ey hx hy = absurd (some-ne-none x (sym ex))
  counted_once f (a ∷ zs) low zero zero x y ex ey hx hy = refl
  counted_once f (a ∷ zs) low zero (suc j) x y ex ey hx hy =
      let is = ap f (some-injective a x ex) in
      absurd (omega (arith, is, sum_by-cons f a zs, tally_part f zs j y ey))
  counted_once f (a ∷ zs) low (suc i) zero x y ex ey hx hy =
      let is = ap f (some-injective a y ey) in
      absurd (omega (arith, is, sum_by-cons f a zs, tally_part f zs i x ex))
  counted_once f (a ∷ zs) low (suc i) (suc j) x y ex ey hx hy =
      ap suc (counted_once f zs (omega (arith, low, sum_by-cons f a zs)) i j x y ex ey hx hy)

  -- where one count is at most another in each member, and the sums are the same, so are the counts
  pub counted_alike : (f g : A → ℕ) (xs : List A) → ((i : ℕ) (x : A) → get_elem? xs i ≡ some x → f x ≤ g x) → sum_by g xs ≤ sum_by f xs
      → (i : ℕ) (x : A) → get_elem? xs i ≡ some x → g x ≤ f x
  counted_alike f g [] under same i x e = absurd (some-ne-none x (sym e))
  counted_alike f g (a ∷ zs) under same zero x e =
      let here = some-injective a x e in
      let most = below f g zs (λ j y at. under (suc j) y at) in
      subst (λ (z : A). g z ≤ f z) here (omega (arith, same, most, sum_by-cons f a zs, sum_by-cons g a zs))
    where
      below : (f g : A → ℕ) (ys : List A) → ((i : ℕ) (x : A) → get_elem? ys i ≡ some x → f x ≤ g x) → sum_by f ys ≤ sum_by g ys
      below f g [] h = omega arith
      below f g (y ∷ ys) h = omega (arith, h 0 y refl, below f g ys (λ j z at. h (suc j) z at), sum_by-cons f y ys, sum_by-cons g y ys)
  counted_alike f g (a ∷ zs) under same (suc i) x e =
      counted_alike f g zs (λ j y at. under (suc j) y at)
      (omega (arith, same, under 0 a refl, sum_by-cons f a zs, sum_by-cons g a zs)) i x e
