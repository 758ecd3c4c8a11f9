-- Lists of dependents: one more front, a window, and marks.
use Rattle.std.proofs.Common.{◌≡◌, ℕ, zero, suc, ◌+◌, ◌<◌, ◌≤◌, Bool, true, false, cond, List, [], ◌∷◌, ◌++◌, length, map, EachIndex, refl, sym, ap, arith, nat_eq, ◌||◌, slice_index_or}
use Rattle.std.proofs.Math.Nat.{add-zero, add-suc}
use Rattle.std.proofs.Math.Numerals.{add-one}
use Rattle.std.proofs.lemmas.Bool.{eqb-true, eq-eqb, ne_eqb}
use Rattle.std.proofs.lemmas.List.{map-append}
use Rattle.std.specs.Cmp.{both_ways}
use Rattle.std.specs.List.{list_any}
use Rattle.gp_base.specs.declared.footprint.Footprint.{Footprint}
use Rattle.dependence.specs.meaning.Conflict.{clash_in, foot_at}
use Rattle.dependence.specs.Conflict.{ClashIn}
use Rattle.dependence.specs.meaning.Dependents.{is_member, dependents}
use Rattle.dependence.specs.Dependents.{IsDependent, itself, later, MarksDependents}
use Rattle.dependence.proofs.Conflicting.{conflicting-is}
use Rattle.dependence.proofs.DependentSets.{IsDependent-below, sound, complete, joins-is}

module _ (clash : ℕ → ℕ → Bool) where
  abbrev Clash : ℕ → ℕ → Type 0
  Clash p q = clash p q ≡ true

  -- whether a position is a dependent does not depend on the front, once the front is past it
  is_member-front : (first front q : ℕ) → q < front
      → is_member q (dependents clash first front) ≡ is_member q (dependents clash first (suc q))
  is_member-front first front q l =
      both_ways (is_member q (dependents clash first front)) (is_member q (dependents clash first (suc q)))
      (λ e. complete clash first (suc q) q (IsDependent-below Clash first front (suc q) (sound clash first front q e) (omega arith)))
      (λ e. complete clash first front q (IsDependent-below Clash first (suc q) front (sound clash first (suc q) q e) l))

  pub dependents-next : (first front q : ℕ) → q < front
      → dependents clash first (q + 1) ≡ cond (is_member q (dependents clash first front)) (dependents clash first q ++ q ∷ [])
      (dependents clash first q)
  dependents-next first front q l =
      rw (add-one, is_member-front first front q l, joins-is clash first q) refl

  -- nothing below the first depends on it
  dependents-none : (first front : ℕ) → front ≤ first → dependents clash first front ≡ []
  dependents-none first zero l = refl
  dependents-none first (suc n) l = let e = dependents-none first n (omega arith) in rw (e, ne_eqb n first (λ same. omega arith)) refl

list_any-map : {X Y : Type 0} (test : Y → Bool) (f : X → Y) (xs : List X) → list_any test (map f xs) ≡ list_any (λ x. test (f x)) xs
list_any-map test f [] = refl
list_any-map test f (x ∷ xs) = ap (λ b. test (f x) || b) (list_any-map test f xs)

module _ (clash : ℕ → ℕ → Bool) (base first : ℕ) where
  abbrev window : ℕ → ℕ → Bool
  window p q = clash (base + p) (base + q)

  pub dependents-shift : (front : ℕ) → dependents clash (base + first) (base + front) ≡ map (λ p. base + p) (dependents window first front)
  dependents-shift zero = rw add-zero (dependents-none clash (base + first) base (omega arith))
  dependents-shift (suc n) =
      rw (add-suc, dependents-shift n, list_any-map (λ p. clash p (base + n)) (λ p. base + p) (dependents window first n), same)
      (go (nat_eq n first || list_any (λ p. window p n) (dependents window first n)))
    where
      same : nat_eq (base + n) (base + first) ≡ nat_eq n first
      same = both_ways (nat_eq (base + n) (base + first)) (nat_eq n first)
          (λ e. let h = eqb-true (base + n) (base + first) e in eq-eqb n first (omega arith))
          (λ e. let h = eqb-true n first e in eq-eqb (base + n) (base + first) (omega arith))

      go : (b : Bool) → cond b (map (λ p. base + p) (dependents window first n) ++ (base + n) ∷ [])
          (map (λ p. base + p) (dependents window first n))
          ≡ map (λ p. base + p) (cond b (dependents window first n ++ n ∷ []) (dependents window first n))
      go true = sym (map-append (λ p. base + p) (dependents window first n) (n ∷ []))
      go false = refl

-- equivalent conflicts have the same dependents
IsDependent-alike : (Clash Other : ℕ → ℕ → Type 0) → ((p q : ℕ) → Clash p q → Other p q) → (first front : ℕ) {q : ℕ}
    → IsDependent Clash first front q → IsDependent Other first front q
IsDependent-alike Clash Other alike first front (itself l) = itself l
IsDependent-alike Clash Other alike first front (later {p = p} {q = q} d l m c) =
    later (IsDependent-alike Clash Other alike first front d) l m (alike p q c)

module _ (feet : List Footprint) where
  abbrev Tested : ℕ → ℕ → Type 0
  Tested p q = clash_in feet p q ≡ true

  tested : (p q : ℕ) → ClashIn feet p q → Tested p q
  tested p q c = (conflicting-is (foot_at feet p) (foot_at feet q)).1 c

  untested : (p q : ℕ) → Tested p q → ClashIn feet p q
  untested p q c = (conflicting-is (foot_at feet p) (foot_at feet q)).0 c

  pub marks-are : (first : ℕ) (marks : List Bool) → MarksDependents feet first marks
      → EachIndex marks (λ q. slice_index_or marks q false ≡ is_member q (dependents (clash_in feet) first (length feet)))
  marks-are first marks marked q l =
      both_ways (slice_index_or marks q false) (is_member q (dependents (clash_in feet) first (length feet)))
      (λ e. complete (clash_in feet) first (length feet) q
      (IsDependent-alike (ClashIn feet) Tested tested first (length feet) ((marked q l).0 e)))
      (λ e. (marked q l).1 (IsDependent-alike Tested (ClashIn feet) untested first (length feet)
      (sound (clash_in feet) first (length feet) q e)))
