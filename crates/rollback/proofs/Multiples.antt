-- Where the multiples of a number and the settles are cuts, the multiples say what the cuts of positions are that have not retired.
use Rattle.std.proofs.Common.{◌≡◌, ◌↔◌, inl, inr, ℕ, zero, suc, ◌+◌, ◌-◌, ◌*◌, ◌/◌, ◌%◌, ◌<◌, ◌≤◌, ◌==◌, max, Bool, true, false, ap, subst, ◌∙◌, arith}
use Rattle.std.proofs.lemmas.Bool.{false_from_ne_true, eqb-true, eq-eqb, or_left, or_from, cases_lt}
use Rattle.std.proofs.lemmas.Nat.{mod_below, mod-mul-add}
use Rattle.std.proofs.Math.Nat.{div-add-mod, mul-mod_right, add-mod_right}
use Rattle.dependence.specs.meaning.Restarts.{Dependence}
use Rattle.dependence.specs.meaning.Journal.{Stage, IsSafe, RestIsSafe}
use Rattle.rollback.specs.meaning.Cuts.{is_cut, cut_at, rolling}
use Rattle.rollback.specs.Driving.{DrivingStands, multiple_at}
use Rattle.rollback.proofs.Backs.{settle-cuts, cut-low, cut-above, cut-under}

module _ (every : ℕ) (some : 1 ≤ every) where
  -- ---- multiples

  pub multiple-low : (p : ℕ) → multiple_at every p ≤ p
  multiple-low p = omega arith

  pub multiple-above : (p : ℕ) → p < multiple_at every p + every
  multiple-above p = let below = mod_below p every some in omega arith

  multiple-is : (p : ℕ) → multiple_at every p ≡ every * (p / every)
  multiple-is p = let whole = div-add-mod p every in omega arith

  multiple-divides : (p : ℕ) → multiple_at every p % every ≡ 0
  multiple-divides p = ap (λ n. n % every) (multiple-is p) ∙ mul-mod_right every (p / every)

  next-divides : (p : ℕ) → (multiple_at every p + every) % every ≡ 0
  next-divides p = add-mod_right (multiple_at every p) every ∙ multiple-divides p

  -- none lies between two that follow one another
  between-divides : (p q : ℕ) → multiple_at every p < q → q < multiple_at every p + every → (q % every == 0) ≡ false
  between-divides p q low high =
      false_from_ne_true (q % every == 0)
      (λ e.
      (let none = eqb-true (q % every) 0 e in
      let rest : q % every ≡ q - multiple_at every p = is ∙ mod-mul-add (p / every) every (q - multiple_at every p) (omega arith) in
      omega arith))
    where
      is : q % every ≡ (p / every * every + (q - multiple_at every p)) % every
      is = let multiple = multiple-is p in ap (λ n. n % every) (omega arith)

  -- ---- cuts

  module _ (dependence : Dependence) where
    abbrev cuts : ℕ → Bool
    cuts = is_cut every dependence

    is_cut-multiple : (c : ℕ) → c % every ≡ 0 → cuts c ≡ true
    is_cut-multiple c divides = or_left (c % every == 0) (dependence.settles c) (eq-eqb (c % every) 0 divides)

    -- the multiple is not above the cut
    pub multiple-cut : (p : ℕ) → multiple_at every p ≤ cut_at cuts p
    multiple-cut p = cut-above cuts (multiple_at every p) p (is_cut-multiple (multiple_at every p) (multiple-divides p)) (multiple-low p)

    -- a position of the same block lies below the next multiple
    pub rest-is-safe : (at : Stage) (p : ℕ) → ((q : ℕ) → p ≤ q → q < multiple_at every p + every → IsSafe at q)
        → (q : ℕ) → p ≤ q → cut_at cuts q ≡ cut_at cuts p → IsSafe at q
    rest-is-safe at p safe q low same =
        elim (cases_lt q (multiple_at every p + every)) [
          | inl within ↦ safe q low within
          | inr past ↦
              absurd
              (let next = cut-above cuts (multiple_at every p + every) q (is_cut-multiple (multiple_at every p + every) (next-divides p)) past in
              let own = cut-low cuts p in
              let above = multiple-above p in
              omega arith)
        ]

    module _ (at : Stage) (driving : DrivingStands dependence at) where
      -- past what has retired a position that was issued is no cut between two multiples
      between-uncut : (p q : ℕ) → multiple_at every p < q → q < multiple_at every p + every → at.retired < q → q < at.progress.front
          → cuts q ≡ false
      between-uncut p q low high unretired issued =
          or_from (q % every == 0) (dependence.settles q) (between-divides p q low high)
          (false_from_ne_true (dependence.settles q) (λ settles. (let behind = driving.settled q settles issued in omega arith)))

      -- where the rest of a block is safe, each position up to the next multiple is of that block, and was issued
      module _ (p : ℕ) (counted : at.progress.front ≤ dependence.count) (unretired : at.retired ≤ p) (issued : p < at.progress.front)
          (rest : RestIsSafe (rolling cuts dependence) at p) where
        -- one that is safe is followed by one that was issued
        safe-issued : (q : ℕ) → p ≤ q → q < at.progress.front → cut_at cuts q ≡ cut_at cuts p → q + 1 < at.progress.front
        safe-issued q low there same =
            let long = (rest q low (omega arith) same).long in let above = driving.begun_above q there in omega arith

        in-block : (q : ℕ) → p ≤ q → q < multiple_at every p + every → (cut_at cuts q ≡ cut_at cuts p) × (q < at.progress.front)
        in-block zero low high = (let same : 0 ≡ p = omega arith in (ap (cut_at cuts) same, omega arith))
        in-block (suc q) low high =
            elim (cases_lt q p) [
              | inl last ↦ (let same : suc q ≡ p = omega arith in (ap (cut_at cuts) same, omega arith))
              | inr from ↦
                  (let before = in-block q from (omega arith) in
                  let next = safe-issued q from before.1 before.0 in
                  let least = multiple-low p in
                  let uncut = between-uncut p (suc q) (omega arith) high (omega arith) (omega arith) in
                  (rw uncut before.0, omega arith))
            ]

        pub rest-safe-only : (multiple_at every p + every ≤ at.progress.front)
            × ((q : ℕ) → p ≤ q → q < multiple_at every p + every → IsSafe at q)
        rest-safe-only = (
          let above = multiple-above p in
              let last = in-block (multiple_at every p + every - 1) (omega arith) (omega arith) in
              let next = safe-issued (multiple_at every p + every - 1) (omega arith) last.1 last.0 in
              omega arith,
          λ q low high. let there = in-block q low high in let front = there.1 in rest q low (omega arith) there.0,
        )

      -- the cut is the multiple, or else not past the oldest position
      cut-most : (p : ℕ) → p < at.progress.front → cut_at cuts p ≤ max (multiple_at every p) at.retired
      cut-most p issued =
          cut-under cuts (max (multiple_at every p) at.retired) p
          (λ q above up.
          (let next = multiple-above p in
          between-uncut p q (omega arith) (omega arith) (omega arith) (omega arith)))

      pub cut-multiple : (p : ℕ) → p < at.progress.front → at.retired ≤ multiple_at every p → cut_at cuts p ≡ multiple_at every p
      cut-multiple p issued behind = let low = multiple-cut p in let high = cut-most p issued in omega arith

      pub cut-oldest : (p : ℕ) → at.retired ≤ p → p < at.progress.front → multiple_at every p < at.retired
          → dependence.settles at.retired ≡ true → cut_at cuts p ≡ at.retired
      cut-oldest p unretired issued begun settles =
          let low = cut-above cuts at.retired p (settle-cuts every dependence at.retired settles) unretired in
          let high = cut-most p issued in
          omega arith

      pub cut-retired : (p : ℕ) → at.retired ≤ p → p < at.progress.front → multiple_at every p < at.retired
          → dependence.settles at.retired ≡ false → cut_at cuts p < at.retired
      cut-retired p unretired issued begun none = let high = cut-under cuts (at.retired - 1) p uncut in omega arith
        where
          uncut : (q : ℕ) → at.retired - 1 < q → q ≤ p → cuts q ≡ false
          uncut q above up =
              elim (cases_lt at.retired q) [
                | inl later ↦ (let next = multiple-above p in between-uncut p q (omega arith) (omega arith) later (omega arith))
                | inr oldest ↦
                    (let next = multiple-above p in
                    let same : at.retired ≡ q = omega arith in
                    or_from (q % every == 0) (dependence.settles q) (between-divides p q (omega arith) (omega arith))
                    (subst (λ r. dependence.settles r ≡ false) same none))
              ]

      -- all before the block is applied exactly where all before the multiple is
      pub whole-cut : ((q : ℕ) → q < at.retired → at.applied q ≡ true) → (p : ℕ) → p < at.progress.front
          → ((q : ℕ) → q < cut_at cuts p → at.applied q ≡ true) ↔ ((q : ℕ) → q < multiple_at every p → at.applied q ≡ true)
      whole-cut retired p issued = ((λ whole q l. whole q (let low = multiple-cut p in omega arith)), above)
        where
          above : ((q : ℕ) → q < multiple_at every p → at.applied q ≡ true) → (q : ℕ) → q < cut_at cuts p → at.applied q ≡ true
          above whole q l =
              elim (cases_lt q (multiple_at every p)) [
                | inl before ↦ whole q before
                | inr from ↦ retired q (let high = cut-most p issued in omega arith)
              ]
