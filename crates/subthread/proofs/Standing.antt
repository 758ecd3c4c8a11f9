-- What a cell that stands at a place means for the values of bundles.
use Rattle.std.proofs.Common.{◌≡◌, ℕ, zero, suc, ◌<◌, Bool, true, false, cond, List, [], ◌∷◌, length, Some, refl, sym, ap, ◌∙◌, subst, arith, nat_eq, unwrap_or}
use Rattle.std.specs.Prelude.{ℤ, pos, slice_get, slice_set}
use Rattle.std.specs.Ordering.{nat_cmp}
use Rattle.std.specs.FinMap.{find}
use Rattle.std.proofs.lemmas.Bool.{eqb-true, ne_eqb}
use Rattle.task_ast.specs.meaning.State.{number_at}
use Rattle.task_ast.specs.meaning.Under.{under_lock}
use Rattle.record_store.specs.declared.given.Bundle.{Bundle}
use Rattle.record_store.specs.Given.{value_beside, value_in}
use Rattle.record_store.specs.Lent.{put_beside, put_back}
use Rattle.record_store.proofs.Shelved.{beside_at, beside_none}
use Rattle.subthread.specs.inner.Places.{AllLack, StandsAt, HasPlace, value_at, with_value}

module _ (under : List (List ℕ)) (c : ℕ) where
  pub lacks_value : (bundles : List Bundle) → AllLack under c bundles → value_in under bundles c ≡ pos 0
  lacks_value [] none = refl
  lacks_value (b ∷ bundles) none =
      beside_none (under_lock under b.lock) b.cells c (value_in under bundles c) none.0 ∙ lacks_value bundles none.1

  pub stands_value : (i k : ℕ) (bundles : List Bundle) → StandsAt under c i k bundles → value_in under bundles c ≡ value_at bundles i k
  stands_value i k [] at = absurd at
  stands_value zero k (b ∷ bundles) at =
      beside_at (under_lock under b.lock) b.cells c k (value_in under bundles c) at.0.size at.0.there at.0.once
  stands_value (suc i) k (b ∷ bundles) at =
      beside_none (under_lock under b.lock) b.cells c (value_in under bundles c) at.0 ∙ stands_value i k bundles at.1

  get_within : (cells : List ℕ) (k n : ℕ) → slice_get cells k ≡ Some n → k < length cells
  get_within [] k n is = absurd (cc is)
  get_within (x ∷ cells) zero n is = omega arith
  get_within (x ∷ cells) (suc k) n is = let rest = get_within cells k n is in omega arith

  pub stands_has : (i k : ℕ) (bundles : List Bundle) → StandsAt under c i k bundles → HasPlace bundles i k
  stands_has i k [] at = absurd at
  stands_has zero k (b ∷ bundles) at = let less = get_within (under_lock under b.lock) k c at.0.there in omega (arith, at.0.size)
  stands_has (suc i) k (b ∷ bundles) at = stands_has i k bundles at.1

  pub stands_not : (i k : ℕ) (bundles : List Bundle) → StandsAt under c i k bundles → AllLack under c bundles → ⊥
  stands_not i k [] at none = at
  stands_not zero k (b ∷ bundles) at none = none.0 k at.0.there
  stands_not (suc i) k (b ∷ bundles) at none = stands_not i k bundles at.1 none.1

  -- values beside numbers, of which that of the cell is set
  beside_set : (cells : List ℕ) (values : List ℤ) (k : ℕ) (v : ℤ) (d : ℕ) (other : ℤ) → slice_get cells k ≡ Some c
      → ((j : ℕ) → slice_get cells j ≡ Some c → j ≡ k) → length values ≡ length cells
      → value_beside cells (slice_set values k v) d other ≡ cond (nat_eq d c) v (value_beside cells values d other)
  beside_set [] values k v d other there once size = absurd (cc there)
  beside_set (n ∷ cells) [] k v d other there once size = absurd (omega (arith, size))
  beside_set (n ∷ cells) (w ∷ values) zero v d other there once size =
      let same : n ≡ c = cc there in
      subst (λ m. cond (nat_eq d m) v (value_beside cells values d other)
      ≡ cond (nat_eq d c) v (cond (nat_eq d m) w (value_beside cells values d other))) (sym same) (go (nat_eq d c))
    where
      go : (b : Bool) → cond b v (value_beside cells values d other) ≡ cond b v (cond b w (value_beside cells values d other))
      go true = refl
      go false = refl
  beside_set (n ∷ cells) (w ∷ values) (suc k) v d other there once size =
      go (nat_eq d n) refl (beside_set cells values k v d other there
      (λ j is. let same = once (suc j) is in omega arith) (omega (arith, size)))
    where
      go : (b : Bool) → nat_eq d n ≡ b
          → value_beside cells (slice_set values k v) d other ≡ cond (nat_eq d c) v (value_beside cells values d other)
          → cond b w (value_beside cells (slice_set values k v) d other)
          ≡ cond (nat_eq d c) v (cond b w (value_beside cells values d other))
      go true same rest =
          ap (λ b. cond b v w) (sym (ne_eqb d c (λ is. let first = once 0 (ap Some (sym (eqb-true d n same) ∙ is)) in omega arith)))
      go false differ rest = rest

  pub value_set : (i k : ℕ) (v : ℤ) (bundles : List Bundle) (d : ℕ) → StandsAt under c i k bundles
      → value_in under (with_value i k v bundles) d ≡ cond (nat_eq d c) v (value_in under bundles d)
  value_set i k v [] d at = absurd at
  value_set zero k v (b ∷ bundles) d at =
      beside_set (under_lock under b.lock) b.cells k v d (value_in under bundles d) at.0.there at.0.once at.0.size
  value_set (suc i) k v (b ∷ bundles) d at =
      ap (value_beside (under_lock under b.lock) b.cells d) (value_set i k v bundles d at.1) ∙ go (nat_eq d c) refl
    where
      go : (t : Bool) → nat_eq d c ≡ t
          → value_beside (under_lock under b.lock) b.cells d (cond t v (value_in under bundles d))
          ≡ cond t v (value_beside (under_lock under b.lock) b.cells d (value_in under bundles d))
      go true same = beside_none (under_lock under b.lock) b.cells d v (λ j is. at.0 j (is ∙ ap Some (eqb-true d c same)))
      go false differ = refl

  -- ---- what came stays

  module _ (old later : List (ℕ × ℤ)) (others : (n : ℕ) → (n ≡ c → ⊥) → find nat_cmp n later ≡ find nat_cmp n old) where
    same_beside : (cells : List ℕ) (values : List ℤ) → ((j : ℕ) → slice_get cells j ≡ Some c → ⊥)
        → put_beside cells values later ≡ put_beside cells values old
    same_beside [] values none = refl
    same_beside (n ∷ cells) [] none = refl
    same_beside (n ∷ cells) (v ∷ values) none =
        λ i. unwrap_or (others n (λ same. none 0 (ap Some same)) i) v ∷ same_beside cells values (λ j is. none (suc j) is) i

    same_back : (bundles : List Bundle) → AllLack under c bundles → put_back under later bundles ≡ put_back under old bundles
    same_back [] none = refl
    same_back (b ∷ bundles) none =
        λ i. record { lock = b.lock; cells = same_beside (under_lock under b.lock) b.cells none.0 i } ∷ same_back bundles none.1 i

    module _ (v : ℤ) where
      set_beside : (cells : List ℕ) (values : List ℤ) (k : ℕ) → slice_get cells k ≡ Some c → ((j : ℕ) → slice_get cells j ≡ Some c → j ≡ k)
          → length values ≡ length cells
          → unwrap_or (find nat_cmp c later) v ≡ unwrap_or (find nat_cmp c old) (number_at values k)
          → put_beside cells (slice_set values k v) later ≡ put_beside cells values old
      set_beside [] values k there once size is = absurd (cc there)
      set_beside (n ∷ cells) [] k there once size is = absurd (omega (arith, size))
      set_beside (n ∷ cells) (w ∷ values) zero there once size is =
          let same : n ≡ c = cc there in
          let first : unwrap_or (find nat_cmp n later) v ≡ unwrap_or (find nat_cmp n old) w =
          subst (λ m. unwrap_or (find nat_cmp m later) v ≡ unwrap_or (find nat_cmp m old) w) (sym same) is in
          λ i. first i ∷ same_beside cells values (λ j at. let zero_is = once (suc j) at in omega arith) i
      set_beside (n ∷ cells) (w ∷ values) (suc k) there once size is =
          λ i. unwrap_or (others n (λ same. let zero_is = once 0 (ap Some same) in omega arith) i) w
          ∷ set_beside cells values k there (λ j at. let next = once (suc j) at in omega arith) (omega (arith, size)) is i

      pub set_back : (i k : ℕ) (bundles : List Bundle) → StandsAt under c i k bundles
          → unwrap_or (find nat_cmp c later) v ≡ unwrap_or (find nat_cmp c old) (value_at bundles i k)
          → put_back under later (with_value i k v bundles) ≡ put_back under old bundles
      set_back i k [] at is = absurd at
      set_back zero k (b ∷ bundles) at is =
          λ i. record { lock = b.lock; cells = set_beside (under_lock under b.lock) b.cells k at.0.there at.0.once at.0.size is i }
          ∷ same_back bundles at.1 i
      set_back (suc n) k (b ∷ bundles) at is =
          λ i. record { lock = b.lock; cells = same_beside (under_lock under b.lock) b.cells at.0 i } ∷ set_back n k bundles at.1 is i
