-- Sums over all views, and how often a desk stands in a list.
use Rattle.std.proofs.Common.{◌≡◌, ◌≢◌, ℕ, zero, suc, ◌+◌, ◌<◌, ◌≤◌, eqb, Bool, not, cond, List, [], ◌∷◌, ◌++◌, set, sym, refl, ap, ◌∙◌, subst, arith, eq-eqb, ne_eqb}
use Rattle.std.proofs.lemmas.List.Sums.{sum_by-cons, sum_by-append}
use Rattle.std.specs.Prelude.{sum_by, All}
use Rattle.std.proofs.lemmas.List.Elements.{All-cons, All-nil}
use mathlib.Core.Option.{some, some-injective, some-ne-none}
use mathlib.Core.Logic.{dite}
use native.Mathlib.Decide.{ℕ_discrete}
use lib.ListN.{get_elem?}
use Rattle.desk_board.specs.Rule.{times}
use Rattle.desk_board.specs.Told.{without}

module _ {A : Type 0} where
  -- the sum after one value changed
  pub tally_set : (f : A → ℕ) (xs : List A) (i : ℕ) (x y : A) → get_elem? xs i ≡ some x → sum_by f (set xs i y) + f x ≡ sum_by f xs + f y
  tally_set f [] i x y e = absurd (some-ne-none x (sym e))
  tally_set f (a ∷ zs) zero x y e = let is = ap f (some-injective a x e) in omega (arith, is, sum_by-cons f y zs, sum_by-cons f a zs)
  tally_set f (a ∷ zs) (suc i) x y e = omega (arith, tally_set f zs i x y e, sum_by-cons f a (set zs i y), sum_by-cons f a zs)

  -- where it counts as much as before, or 1 more
  pub tally_same : (f : A → ℕ) (xs : List A) (i : ℕ) (x y : A) → get_elem? xs i ≡ some x → f y ≡ f x → sum_by f (set xs i y) ≡ sum_by f xs
  tally_same f xs i x y at e = omega (arith, tally_set f xs i x y at, e)

  pub tally_one_more : (f : A → ℕ) (xs : List A) (i : ℕ) (x y : A) → get_elem? xs i ≡ some x → f y ≡ f x + 1
      → sum_by f (set xs i y) ≡ sum_by f xs + 1
  tally_one_more f xs i x y at e = omega (arith, tally_set f xs i x y at, e)

  pub tally_part : (f : A → ℕ) (xs : List A) (i : ℕ) (x : A) → get_elem? xs i ≡ some x → f x ≤ sum_by f xs
  tally_part f [] i x e = absurd (some-ne-none x (sym e))
  tally_part f (a ∷ zs) zero x e = let is = ap f (some-injective a x e) in omega (arith, is, sum_by-cons f a zs)
  tally_part f (a ∷ zs) (suc i) x e = omega (arith, tally_part f zs i x e, sum_by-cons f a zs)

  pub tally_none : (f : A → ℕ) (xs : List A) → ((j : ℕ) (y : A) → get_elem? xs j ≡ some y → f y ≡ 0) → sum_by f xs ≡ 0
  tally_none f [] h = refl
  tally_none f (a ∷ zs) h = omega (arith, h 0 a refl, tally_none f zs (λ j y e. h (suc j) y e), sum_by-cons f a zs)

  -- where one value has all of g, and f is 0 wherever g is, it has all of f
  pub tally_alone : (g f : A → ℕ) (xs : List A) (i : ℕ) (x : A) → get_elem? xs i ≡ some x → sum_by g xs ≡ g x
      → ((j : ℕ) (y : A) → get_elem? xs j ≡ some y → g y ≡ 0 → f y ≡ 0) → sum_by f xs ≡ f x
  tally_alone g f [] i x e all h = absurd (some-ne-none x (sym e))
  tally_alone g f (a ∷ zs) zero x e all h =
      let is = ap f (some-injective a x e) in let gis = ap g (some-injective a x e) in
      let rest : sum_by g zs ≡ 0 = omega (arith, gis, all, sum_by-cons g a zs) in
      let none : sum_by f zs ≡ 0 = tally_none f zs (λ j y at. h (suc j) y at (let p = tally_part g zs j y at in omega arith)) in
      omega (arith, is, none, sum_by-cons f a zs)
  tally_alone g f (a ∷ zs) (suc i) x e all h =
      let p = tally_part g zs i x e in
      let here : g a ≡ 0 = omega (arith, p, all, sum_by-cons g a zs) in
      let rest : sum_by g zs ≡ g x = omega (arith, p, all, sum_by-cons g a zs) in
      omega (arith, h 0 a refl here, tally_alone g f zs i x e rest (λ j y at. h (suc j) y at), sum_by-cons f a zs)

  pub tally_le : (f g : A → ℕ) (xs : List A) → ((y : A) → f y ≤ g y) → sum_by f xs ≤ sum_by g xs
  tally_le f g [] h = omega arith
  tally_le f g (a ∷ zs) h = omega (arith, h a, tally_le f g zs h, sum_by-cons f a zs, sum_by-cons g a zs)

  pub tally_more : (f : A → ℕ) (xs : List A) (y : A) → sum_by f (xs ++ y ∷ []) ≡ sum_by f xs + f y
  tally_more f xs y = omega (arith, sum_by-append f xs (y ∷ []), sum_by-cons f y [])

  -- one value is split in two
  pub tally_split : (f : A → ℕ) (xs : List A) (i : ℕ) (x left right : A) → get_elem? xs i ≡ some x
      → sum_by f (set xs i left ++ right ∷ []) + f x ≡ sum_by f xs + (f left + f right)
  tally_split f xs i x left right at = omega (arith, tally_more f (set xs i left) right, tally_set f xs i x left at)

  -- two values are joined into one of them
  pub tally_join : (f : A → ℕ) (xs : List A) (i : ℕ) (x : A) (j : ℕ) (y both spent : A) → get_elem? xs i ≡ some x
      → get_elem? (set xs i both) j ≡ some y
      → sum_by f (set (set xs i both) j spent) + (f x + f y) ≡ sum_by f xs + (f both + f spent)
  tally_join f xs i x j y both spent at there = omega (arith, tally_set f (set xs i both) j y spent there, tally_set f xs i x both at)

  -- what is split or joined without gain or loss: `none` counts nothing
  pub split_same : (f : A → ℕ) (xs : List A) (i : ℕ) (x none left right : A) → get_elem? xs i ≡ some x → f none ≡ 0
      → f left + f right ≡ f x + f none → sum_by f (set xs i left ++ right ∷ []) ≡ sum_by f xs
  split_same f xs i x none left right at nothing e = omega (arith, nothing, e, tally_split f xs i x left right at)

  pub join_same : (f : A → ℕ) (xs : List A) (i : ℕ) (x : A) (j : ℕ) (y both spent : A) → get_elem? xs i ≡ some x
      → get_elem? (set xs i both) j ≡ some y → f both + f spent ≡ f x + f y → sum_by f (set (set xs i both) j spent) ≡ sum_by f xs
  join_same f xs i x j y both spent at there e = omega (arith, e, tally_join f xs i x j y both spent at there)

abbrev pub mark : ℕ → ℕ → ℕ
mark k d = cond (eqb d k) 1 0

pub times_append : (k : ℕ) (xs ys : List ℕ) → times k (xs ++ ys) ≡ times k xs + times k ys
times_append k xs ys = sum_by-append (λ d. cond (eqb d k) 1 0) xs ys

pub times_cons : (k d : ℕ) (xs : List ℕ) → times k (d ∷ xs) ≡ mark k d + times k xs
times_cons k d xs = sum_by-cons (λ d. cond (eqb d k) 1 0) d xs

pub one_same : (k d : ℕ) → d ≡ k → mark k d ≡ 1
one_same k d e = ap (λ (b : Bool). let n : ℕ = cond b 1 0 in n) (eq-eqb d k e)

pub one_other : (k d : ℕ) → d ≢ k → mark k d ≡ 0
one_other k d ne = ap (λ (b : Bool). let n : ℕ = cond b 1 0 in n) (ne_eqb d k ne)

pub times_more : (k : ℕ) (xs : List ℕ) → times k (xs ++ k ∷ []) ≡ times k xs + 1
times_more k xs = omega (arith, times_append k xs (k ∷ []), times_cons k k [], one_same k k refl)

pub times_else : (j k : ℕ) (xs : List ℕ) → j ≢ k → times j (xs ++ k ∷ []) ≡ times j xs
times_else j k xs ne = omega (arith, times_append j xs (k ∷ []), times_cons j k [], one_other j k (λ e. ne (sym e)))

without_yes : (k d : ℕ) (xs : List ℕ) → d ≡ k → without k (d ∷ xs) ≡ without k xs
without_yes k d xs e = ap (λ b. cond (not b) (d ∷ without k xs) (without k xs)) (eq-eqb d k e)

without_no : (k d : ℕ) (xs : List ℕ) → d ≢ k → without k (d ∷ xs) ≡ d ∷ without k xs
without_no k d xs ne = ap (λ b. cond (not b) (d ∷ without k xs) (without k xs)) (ne_eqb d k ne)

pub without_same : (k : ℕ) (xs : List ℕ) → times k (without k xs) ≡ 0
without_same k [] = refl
without_same k (d ∷ xs) = dite (ℕ_discrete d k) (λ e. ap (times k) (without_yes k d xs e) ∙ without_same k xs)
    (λ ne. ap (times k) (without_no k d xs ne)
    ∙ (let one = one_other k d ne in omega (arith, one, times_cons k d (without k xs), without_same k xs)))

pub without_else : (j k : ℕ) (xs : List ℕ) → j ≢ k → times j (without k xs) ≡ times j xs
without_else j k [] ne = refl
without_else j k (d ∷ xs) ne = dite (ℕ_discrete d k)
    (λ e. ap (times j) (without_yes k d xs e)
    ∙ (let one = one_other j d (λ s. ne (sym s ∙ e)) in omega (arith, one, times_cons j d xs, without_else j k xs ne)))
    (λ no. ap (times j) (without_no k d xs no) ∙ (omega (arith, times_cons j d xs, times_cons j d (without k xs), without_else j k xs ne)))

pub without_le : (j k : ℕ) (xs : List ℕ) → times j (without k xs) ≤ times j xs
without_le j k xs =
    dite (ℕ_discrete j k) (λ e. subst (λ (z : ℕ). times z (without k xs) ≤ times z xs) (sym e) (omega (arith, without_same k xs)))
    (λ ne. omega (arith, without_else j k xs ne))

pub all_from_times : (P : ℕ → Type 0) (xs : List ℕ) → ((d : ℕ) → 0 < times d xs → P d) → All P xs
all_from_times P [] h = All-nil P
all_from_times P (d ∷ xs) h =
    All-cons P d xs (h d (omega (arith, times_cons d d xs, one_same d d refl)))
    (all_from_times P xs (λ e p. h e (omega (arith, p, times_cons e d xs))))
