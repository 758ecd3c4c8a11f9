-- One walk over the footprints marks the least set.
use Rattle.std.proofs.Common.{◌≡◌, ◌↔◌, inr, inl, ℕ, ◌<◌, ◌≤◌, ◌+◌, Bool, true, false, List, length, get_or, set, refl, arith, get_or-set_other, get_or-set_same, below_more, IsTrue, subst, sym, ◌∙◌}
use Rattle.std.proofs.lemmas.Bool.{false≢true}
use Rattle.std.proofs.lemmas.List.{get_or_default}
use Rattle.gp_base.specs.declared.footprint.Footprint.{Footprint}
use Rattle.dependence.specs.meaning.Conflict.{idle_foot}
use Rattle.dependence.specs.Conflict.{Conflict, ClashIn}
use Rattle.dependence.specs.Dependents.{IsDependent, itself, later, IsReached}
use Rattle.dependence.proofs.DependentSets.{IsDependent-from, IsDependent-inverted}

-- the marks below k are the dependents
abbrev pub MarkedBelow : List Footprint → ℕ → List Bool → ℕ → Type 0
MarkedBelow feet first marks k = (q : ℕ) → q < k → (get_or marks q false ≡ true) ↔ IsDependent (ClashIn feet) first (length feet) q

module _ (feet : List Footprint) (first : ℕ) (marks : List Bool) (k : ℕ) (below : MarkedBelow feet first marks k)
    (fits : k < length marks) where
  marked_more : (b : Bool) → (b ≡ true) ↔ IsDependent (ClashIn feet) first (length feet) k → MarkedBelow feet first (set marks k b) (k + 1)
  marked_more b here =
      below_more _ _
      (λ q h. let ne : q ≡ k → ⊥ = omega arith in rw get_or-set_other (below q h))
      (rw get_or-set_same here)

  -- no position before the first is one
  pub marked_none : k < first → MarkedBelow feet first (set marks k false) (k + 1)
  marked_none l =
      marked_more false (
        λ e. absurd (false≢true e),
        λ d.
            absurd (let h : first ≤ k = IsDependent-from (ClashIn feet) first (length feet) d in omega arith),
      )

  pub marked_first : k ≡ first → first < length feet → MarkedBelow feet first (set marks k true) (k + 1)
  marked_first e l = marked_more true (λ _. rw e (itself l), λ _. refl)

  -- a later one is a dependent where a marked one reaches it
  pub marked_reached : (b : Bool) → first < k → k < length feet → IsTrue b ↔ IsReached feet marks k
      → MarkedBelow feet first (set marks k b) (k + 1)
  marked_reached b l m says = marked_more b (forward, backward)
    where
      forward : b ≡ true → IsDependent (ClashIn feet) first (length feet) k
      forward e = let r : IsReached feet marks k = says.0 e in later ((below r.0 r.1).0 r.2) r.1 m r.3

      backward : IsDependent (ClashIn feet) first (length feet) k → b ≡ true
      backward d =
          elim (IsDependent-inverted (ClashIn feet) first (length feet) d) [
            | inl e ↦ absurd (omega arith)
            | inr h ↦ says.1 (h.0, h.1, (below h.0 h.1).1 h.2, h.3)
          ]

-- a relation holds of equal terms
both_moved : {A : Type 0} (R : A → A → Type 0) {x x' y y' : A} → x ≡ x' → y ≡ y' → R x y → R x' y'
both_moved R {x = x} {y' = y'} e f h = subst (λ a. R a y') e (subst (λ b. R x b) f h)

-- the footprints that were read are in conflict exactly where their places are
pub ClashIn-read : (feet : List Footprint) (p q : ℕ) (x y : Footprint) → p < length feet → q < length feet → x ≡ get_or feet p x
    → y ≡ get_or feet q y
    → Conflict x y ↔ ClashIn feet p q
ClashIn-read feet p q x y l m e f = (
  both_moved Conflict (e ∙ get_or_default feet p x idle_foot l) (f ∙ get_or_default feet q y idle_foot m),
  both_moved Conflict (sym (e ∙ get_or_default feet p x idle_foot l)) (sym (f ∙ get_or_default feet q y idle_foot m)),
)
