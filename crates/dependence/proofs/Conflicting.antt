-- The tests of conflict say what they test.
use Rattle.std.proofs.Common.{◌≡◌, ◌↔◌, inl, inr, Bool, true, List, refl, ap, subst, ◌||◌}
use Rattle.std.proofs.lemmas.Bool.{false≢true, eqb-true, eq-eqb, or_cases, or_left, or_right}
use Rattle.std.proofs.lemmas.List.Folds.{Any-from_list_any, list_any-from_Any}
use Rattle.std.proofs.lemmas.Map.Views.{Contains-from_any, list_any-from_Contains}
use Rattle.std.specs.Cmp.{IsEquivalence, decided}
use Rattle.std.specs.List.{list_any}
use Rattle.gp_base.specs.declared.footprint.Loc.{Loc}
use Rattle.gp_base.specs.declared.footprint.Loc.TheVariants.{Regs, Lock, Rec}
use Rattle.gp_base.specs.declared.footprint.Footprint.{Footprint}
use Rattle.dependence.specs.meaning.Conflict.{same_location, shares, conflicting}
use Rattle.dependence.specs.Conflict.{Conflict, Shared}

same_location-true : (x y : Loc) → same_location x y ≡ true → x ≡ y
same_location-true (Regs a) (Regs b) e = ap Regs (eqb-true a b e)
same_location-true (Lock a) (Lock b) e = ap Lock (eqb-true a b e)
same_location-true (Rec a) (Rec b) e = ap Rec (eqb-true a b e)
same_location-true (Regs a) (Lock b) e = absurd (false≢true e)
same_location-true (Regs a) (Rec b) e = absurd (false≢true e)
same_location-true (Lock a) (Regs b) e = absurd (false≢true e)
same_location-true (Lock a) (Rec b) e = absurd (false≢true e)
same_location-true (Rec a) (Regs b) e = absurd (false≢true e)
same_location-true (Rec a) (Lock b) e = absurd (false≢true e)

same_location-same : (x : Loc) → same_location x x ≡ true
same_location-same (Regs a) = eq-eqb a a refl
same_location-same (Lock a) = eq-eqb a a refl
same_location-same (Rec a) = eq-eqb a a refl

same_location_equiv : IsEquivalence same_location
same_location_equiv =
    decided same_location (λ x y. (same_location-true x y, λ e. subst (λ z. same_location x z ≡ true) e (same_location-same x)))

shares-is : (left right : List Loc) → (shares left right ≡ true) ↔ Shared left right
shares-is left right = (
  λ e.
      (let h = Any-from_list_any (λ loc. list_any (same_location loc) right) left e in
      (h.1, (h.0, h.2, h.3), Contains-from_any same_location-true h.1 right h.4)),
  λ h.
      list_any-from_Any (λ loc. list_any (same_location loc) right) left
      (h.1.0, h.0, h.1.1, h.1.2, list_any-from_Contains same_location_equiv h.0 right h.2),
)

-- the test is true exactly where the footprints are in conflict
pub conflicting-is : (first second : Footprint) → (conflicting first second ≡ true) ↔ Conflict first second
conflicting-is first second = (forward, backward)
  where
    both_write : Bool
    both_write = shares first.writes second.writes

    first_writes : Bool
    first_writes = shares first.writes second.reads

    second_writes : Bool
    second_writes = shares first.reads second.writes

    forward : conflicting first second ≡ true → Conflict first second
    forward e =
        elim (or_cases both_write (first_writes || second_writes) e) [
          | inl h ↦ inl ((shares-is first.writes second.writes).0 h)
          | inr h ↦ elim (or_cases first_writes second_writes h) [
            | inl k ↦ inr (inl ((shares-is first.writes second.reads).0 k))
            | inr k ↦ inr (inr ((shares-is first.reads second.writes).0 k))
          ]
        ]

    backward : Conflict first second → conflicting first second ≡ true
    backward (inl h) = or_left both_write (first_writes || second_writes) ((shares-is first.writes second.writes).1 h)
    backward (inr (inl h)) =
        or_right both_write (first_writes || second_writes) (or_left first_writes second_writes ((shares-is first.writes second.reads).1 h))
    backward (inr (inr h)) =
        or_right both_write (first_writes || second_writes)
        (or_right first_writes second_writes ((shares-is first.reads second.writes).1 h))

Shared-swap : (left right : List Loc) → Shared left right → Shared right left
Shared-swap left right h = (h.0, h.2, h.1)

-- conflict has no direction
pub Conflict-swap : (first second : Footprint) → Conflict first second → Conflict second first
Conflict-swap first second (inl h) = inl (Shared-swap first.writes second.writes h)
Conflict-swap first second (inr (inl h)) = inr (inr (Shared-swap first.writes second.reads h))
Conflict-swap first second (inr (inr h)) = inr (inl (Shared-swap first.reads second.writes h))
