-- The list of dependents holds the least set, in rising order.
use Rattle.std.proofs.Common.{◌≡◌, ◌⊎◌, ◌↔◌, inl, inr, ℕ, zero, suc, ◌+◌, ◌<◌, ◌≤◌, Bool, true, false, cond, List, [], ◌∷◌, ◌++◌, length, get_or, length-append, Contains, refl, sym, ap, ◌∙◌, arith, nat_eq, ◌||◌, ◌&&◌}
use Rattle.std.proofs.Math.Bool.{or-false, and-true}
use Rattle.std.proofs.Math.Seq.{get_or-append_seam}
use Rattle.std.proofs.lemmas.Bool.{false≢true, false_from_ne_true, eqb-true, eq-eqb, or_cases, or_left, or_right, and_parts, and_from, cases_lt}
use Rattle.std.proofs.lemmas.List.{get_or_append_left, get_or_default}
use Rattle.std.proofs.lemmas.List.Folds.{Any-from_list_any, list_any-from_Any, list_any-append}
use Rattle.std.proofs.lemmas.Map.Views.{Contains-from_any, list_any-from_Contains}
use Rattle.std.specs.Cmp.{nat_eq_equiv}
use Rattle.std.specs.List.{list_any}
use Rattle.std.specs.List.Sorted.{IsStrictlyIncreasing}
use Rattle.dependence.specs.meaning.Dependents.{is_member, dependents}
use Rattle.dependence.specs.Dependents.{IsDependent, itself, later}

-- the test of membership says what it tests
pub is_member-is : (p : ℕ) (list : List ℕ) → (is_member p list ≡ true) ↔ Contains list p
is_member-is p list = (Contains-from_any eqb-true p list, list_any-from_Contains nat_eq_equiv p list)

module _ (Clash : ℕ → ℕ → Type 0) (first front : ℕ) where
  -- a dependent is not earlier than the first
  pub IsDependent-from : {q : ℕ} → IsDependent Clash first front q → first ≤ q
  IsDependent-from (itself l) = omega arith
  IsDependent-from (later {p = p} d l m c) = let h : first ≤ p = IsDependent-from d in omega arith

  pub IsDependent-front : {q : ℕ} → IsDependent Clash first front q → q < front
  IsDependent-front (itself l) = l
  IsDependent-front (later d l m c) = m

  -- a dependent other than the first is in conflict with an earlier one
  pub IsDependent-inverted : {q : ℕ} → IsDependent Clash first front q
      → (first ≡ q) ⊎ ((p : ℕ) × (p < q) × IsDependent Clash first front p × Clash p q)
  IsDependent-inverted (itself l) = inl refl
  IsDependent-inverted (later {p = p} d l m c) = inr (p, l, d, c)

  -- the set is the least: any other set that holds the first and is closed holds each dependent
  pub IsDependent-least : (Other : ℕ → Type 0) → Other first → ((p q : ℕ) → Other p → p < q → q < front → Clash p q → Other q)
      → {q : ℕ} → IsDependent Clash first front q → Other q
  IsDependent-least Other base step (itself l) = base
  IsDependent-least Other base step (later {p = p} {q = q} d l m c) = step p q (IsDependent-least Other base step d) l m c

-- a dependent below another front
pub IsDependent-below : (Clash : ℕ → ℕ → Type 0) (first front other : ℕ) {q : ℕ} → IsDependent Clash first front q → q < other
    → IsDependent Clash first other q
IsDependent-below Clash first front other (itself l) m = itself m
IsDependent-below Clash first front other (later {p = p} d l k c) m =
    later (IsDependent-below Clash first front other d (omega arith)) l m c

module _ (clash : ℕ → ℕ → Bool) (first : ℕ) where
  abbrev Clash : ℕ → ℕ → Type 0
  Clash p q = clash p q ≡ true

  -- whether n is the first, or in conflict with a dependent before it
  abbrev pub joins : ℕ → Bool
  joins n = nat_eq n first || list_any (λ p. clash p n) (dependents clash first n)

  -- below the next front stand the dependents below this one, and the front itself where it joins them
  member-next : (n q : ℕ)
      → is_member q (dependents clash first (suc n)) ≡ (is_member q (dependents clash first n) || (joins n && nat_eq q n))
  member-next n q = go (joins n)
    where
      go : (b : Bool) → is_member q (cond b (dependents clash first n ++ n ∷ []) (dependents clash first n))
          ≡ (is_member q (dependents clash first n) || (b && nat_eq q n))
      go true =
          list_any-append (nat_eq q) (dependents clash first n) (n ∷ [])
          ∙ ap (λ b. is_member q (dependents clash first n) || b) (or-false (nat_eq q n))
      go false = sym (or-false (is_member q (dependents clash first n)))

  pub sound : (front q : ℕ) → is_member q (dependents clash first front) ≡ true → IsDependent Clash first front q
  sound zero q e = absurd (false≢true e)
  sound (suc n) q e =
      elim (or_cases (is_member q (dependents clash first n)) (joins n && nat_eq q n) (sym (member-next n q) ∙ e)) [
        | inl h ↦ wider (sound n) q h
        | inr h ↦ (let both = and_parts (joins n) (nat_eq q n) h in joined (sound n) both.0 (eqb-true q n both.1))
      ]
    where
      wider : ((x : ℕ) → is_member x (dependents clash first n) ≡ true → IsDependent Clash first n x) → (x : ℕ)
          → is_member x (dependents clash first n) ≡ true → IsDependent Clash first (suc n) x
      wider below x m =
          let d = below x m in
          IsDependent-below Clash first n (suc n) d (let l : x < n = IsDependent-front Clash first n d in omega arith)

      joined : ((x : ℕ) → is_member x (dependents clash first n) ≡ true → IsDependent Clash first n x) → joins n ≡ true → q ≡ n
          → IsDependent Clash first (suc n) q
      joined below j same =
          rw same (elim (or_cases (nat_eq n first) (list_any (λ p. clash p n) (dependents clash first n)) j) [
            | inl h ↦ (let k : n ≡ first = eqb-true n first h in rw k (itself (omega arith)))
            | inr h ↦
                (let s = Any-from_list_any (λ p. clash p n) (dependents clash first n) h in
                let m = (is_member-is s.1 (dependents clash first n)).1 (s.0, s.2, s.3) in
                let l : s.1 < n = IsDependent-front Clash first n (below s.1 m) in
                later (wider below s.1 m) l (omega arith) s.4)
          ])

  pub complete : (front q : ℕ) → IsDependent Clash first front q → is_member q (dependents clash first front) ≡ true
  complete zero q d = absurd (let l : q < 0 = IsDependent-front Clash first 0 d in omega arith)
  complete (suc n) q d =
      member-next n q ∙ elim (cases_lt q n) [
        | inl l ↦
            or_left (is_member q (dependents clash first n)) (joins n && nat_eq q n)
            (complete n q (IsDependent-below Clash first (suc n) n d l))
        | inr l ↦
            or_right (is_member q (dependents clash first n)) (joins n && nat_eq q n)
            (and_from (joins n) (nat_eq q n) (joined (complete n) (same l)) (eq-eqb q n (same l)))
      ]
    where
      same : n ≤ q → q ≡ n
      same l = let h : q < suc n = IsDependent-front Clash first (suc n) d in omega arith

      joined : ((x : ℕ) → IsDependent Clash first n x → is_member x (dependents clash first n) ≡ true) → q ≡ n → joins n ≡ true
      joined below same =
          elim (IsDependent-inverted Clash first (suc n) d) [
            | inl e ↦ or_left (nat_eq n first) (list_any (λ p. clash p n) (dependents clash first n)) (eq-eqb n first (sym same ∙ sym e))
            | inr e ↦ or_right (nat_eq n first) (list_any (λ p. clash p n) (dependents clash first n))
                (let c = (is_member-is e.0 (dependents clash first n)).0
                (below e.0 (IsDependent-below Clash first (suc n) n e.2 (omega arith))) in
                list_any-from_Any (λ p. clash p n) (dependents clash first n) (c.0, e.0, c.1, c.2, ap (clash e.0) (sym same) ∙ e.3))
          ]

  -- the front joins exactly where it is a dependent below the next front
  pub joins-is : (n : ℕ) → is_member n (dependents clash first (suc n)) ≡ joins n
  joins-is n =
      let absent : is_member n (dependents clash first n) ≡ false =
      false_from_ne_true _ (λ e. let l : n < n = IsDependent-front Clash first n (sound n n e) in omega arith) in
      member-next n n ∙ (ap (λ b. b || (joins n && nat_eq n n)) absent ∙ (ap (λ b. joins n && b) (eq-eqb n n refl) ∙ and-true (joins n)))

  pub dependents-are : (front q : ℕ) → Contains (dependents clash first front) q ↔ IsDependent Clash first front q
  dependents-are front q = (
    λ c. sound front q ((is_member-is q (dependents clash first front)).1 c),
    λ d. (is_member-is q (dependents clash first front)).0 (complete front q d),
  )

  -- a number above all goes to the end of a rising list
  rising_push : (list : List ℕ) (n : ℕ) → ((p : ℕ) → Contains list p → p < n) → IsStrictlyIncreasing list
      → IsStrictlyIncreasing (list ++ n ∷ [])
  rising_push list n above rising k l =
      elim (cases_lt (k + 1) (length list)) [
        | inl m ↦
            (let before = get_or_append_left list (n ∷ []) 0 k (omega arith) in
            let here = get_or_append_left list (n ∷ []) 0 (k + 1) m in
            let rises = rising k m in
            omega arith)
        | inr m ↦
            (let within : k < length list = omega (arith, length-append {A = ℕ}) in
            let same : length list ≡ k + 1 = omega (arith, length-append {A = ℕ}) in
            let before = get_or_append_left list (n ∷ []) 0 k within in
            let here = rw same at (get_or-append_seam list n [] 0) in
            let below : get_or list k 0 < n = above (get_or list k 0) (k, within, get_or_default list k (get_or list k 0) 0 within) in
            omega arith)
      ]

  pub dependents_rise : (front : ℕ) → IsStrictlyIncreasing (dependents clash first front)
  dependents_rise zero = λ k l. absurd (omega arith)
  dependents_rise (suc n) = go (joins n) (dependents_rise n)
    where
      go : (b : Bool) → IsStrictlyIncreasing (dependents clash first n)
          → IsStrictlyIncreasing (cond b (dependents clash first n ++ n ∷ []) (dependents clash first n))
      go true rising = rising_push (dependents clash first n) n (λ p c. IsDependent-front Clash first n ((dependents-are n p).0 c)) rising
      go false rising = rising
