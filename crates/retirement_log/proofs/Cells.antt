-- Cells that are sought among others, from the front on.
use Rattle.std.proofs.Common.{◌≡◌, ◌≢◌, ℕ, ◌+◌, ◌<◌, ◌≤◌, List, [], ◌∷◌, length, drop, get_or, min, refl, inl, inr, sym, ap, ◌∙◌, arith, cond, Bool, true, false}
use Rattle.std.specs.Prelude.{ℤ, pos, nat_eq}
use Rattle.std.proofs.lemmas.Bool.{eq-eqb, eqb-true, cases_lt}
use Rattle.task_ast.specs.meaning.Under.{under_lock}
use Rattle.record_store.specs.declared.given.Bundle.{Bundle}
use Rattle.record_store.specs.Given.{value_beside, value_in}
use Rattle.record_store.proofs.Homing.{drop_next, drop_none}

module _ (cells : List ℕ) (values : List ℤ) (c : ℕ) (k : ℕ) (other : ℤ) where
  -- the value of the cell, as it is sought from this place on
  abbrev pub beside_from : ℤ
  beside_from = value_beside (drop k cells) (drop k values) c other

  -- as it is sought from the next place on
  abbrev beside_later : ℤ
  beside_later = value_beside (drop (k + 1) cells) (drop (k + 1) values) c other

  beside_next : (n : ℕ) → k < length cells → k < length values
      → beside_from ≡ cond (nat_eq c (get_or cells k n)) (get_or values k (pos 0)) beside_later
  beside_next n in_cells in_values = (λ i. value_beside (drop_next cells k n in_cells i) (drop_next values k (pos 0) in_values i) c other)

  -- the cell stands here
  pub beside_here : (n : ℕ) → k < length cells → k < length values → c ≡ get_or cells k n → get_or values k (pos 0) ≡ beside_from
  beside_here n in_cells in_values same =
      sym (beside_next n in_cells in_values ∙ ap (λ b. cond b (get_or values k (pos 0)) beside_later) (eq-eqb c (get_or cells k n) same))

  -- it doesn't
  pub beside_past : (n : ℕ) → k < length cells → k < length values → c ≢ get_or cells k n → beside_later ≡ beside_from
  beside_past n in_cells in_values apart = sym (beside_next n in_cells in_values ∙ go (nat_eq c (get_or cells k n)) refl)
    where
      go : (b : Bool) → nat_eq c (get_or cells k n) ≡ b → cond b (get_or values k (pos 0)) beside_later ≡ beside_later
      go true is = absurd (apart (eqb-true c (get_or cells k n) is))
      go false is = refl

  -- there is no place left
  pub beside_end : min (length cells) (length values) ≤ k → beside_from ≡ other
  beside_end past = elim (cases_lt k (length cells)) [
    | inl inside ↦ ap (λ rest. value_beside (drop k cells) rest c other) (drop_none values k (omega arith)) ∙ without (drop k cells)
    | inr outside ↦ ap (λ rest. value_beside rest (drop k values) c other) (drop_none cells k outside)
  ]
    where
      without : (rest : List ℕ) → value_beside rest [] c other ≡ other
      without [] = refl
      without (n ∷ rest) = refl

-- the value of a cell in bundles, as it is sought from this one on
pub in_next : (under : List (List ℕ)) (bundles : List Bundle) (c k : ℕ) (b : Bundle) → k < length bundles → b ≡ get_or bundles k b
    → value_in under (drop k bundles) c ≡ value_beside (under_lock under b.lock) b.cells c (value_in under (drop (k + 1) bundles) c)
in_next under bundles c k b inside is =
    ap (λ rest. value_in under rest c) (drop_next bundles k b inside ∙ ap (λ first. first ∷ drop (k + 1) bundles) (sym is))

-- after the last one
pub in_none : (under : List (List ℕ)) (bundles : List Bundle) (c k : ℕ) → length bundles ≤ k → value_in under (drop k bundles) c ≡ pos 0
in_none under bundles c k past = ap (λ rest. value_in under rest c) (drop_none bundles k past)
