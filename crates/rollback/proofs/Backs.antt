-- What is rolled back.
use Rattle.std.proofs.Common.{◌≡◌, ◌↔◌, ℕ, zero, suc, ◌+◌, ◌-◌, ◌%◌, ◌==◌, ◌<◌, ◌≤◌, Bool, true, false, cond, Contains, Some, refl, ap, ◌∙◌, inl, inr, arith}
use Rattle.std.proofs.lemmas.Bool.{both_ways, false_from_ne_true, or_right, cases_lt}
use Rattle.task_ast.specs.meaning.Table.{numbers}
use Rattle.task_ast.proofs.Layouts.{length-numbers, get-numbers}
use Rattle.dependence.specs.meaning.Dependents.{dependents, is_member}
use Rattle.dependence.specs.meaning.Restarts.{Dependence, restart_of}
use Rattle.dependence.specs.Restarts.{RedoesStruck}
use Rattle.dependence.specs.meaning.Journal.{Stage, restarted}
use Rattle.dependence.specs.Standing.{present, RedoesConflicts}
use Rattle.dependence.proofs.DependentSets.{is_member-is, IsDependent-from, IsDependent-front, dependents-are}
use Rattle.dependence.proofs.RestartEnds.{attempt-push}
use Rattle.rollback.specs.meaning.Cuts.{is_cut, cut_at, back, rolling}
use Rattle.rollback.specs.Cuts.{SettlesCut}

-- the members of a row of numbers
numbers-within : (a n q : ℕ) → Contains (numbers a n) q → (a ≤ q) × (q < a + n)
numbers-within a n q c =
    let len = length-numbers a n in
    let within = c.1 in
    let at = get-numbers a n c.0 q (omega arith) in
    let same = c.2 in
    (omega arith, omega arith)

numbers-has : (a n q : ℕ) → a ≤ q → q < a + n → Contains (numbers a n) q
numbers-has a n q low high =
    let len = length-numbers a n in
    (q - a, omega arith, get-numbers a n (q - a) q (omega arith) ∙ omega arith)

pub settle-cuts : (every : ℕ) (dependence : Dependence) → SettlesCut (is_cut every dependence) dependence
settle-cuts every dependence p settles = or_right (p % every == 0) (dependence.settles p) settles

module _ (cuts : ℕ → Bool) where
  -- the greatest cut is not above the position
  pub cut-low : (p : ℕ) → cut_at cuts p ≤ p
  cut-low zero = omega arith
  cut-low (suc p) = go (cuts (suc p)) (cut-low p)
    where
      go : (b : Bool) → cut_at cuts p ≤ p → cond b (suc p) (cut_at cuts p) ≤ suc p
      go true l = omega arith
      go false l = omega arith

  -- a later position has no earlier cut
  pub cut-rises : (p q : ℕ) → p ≤ q → cut_at cuts p ≤ cut_at cuts q
  cut-rises p zero l = let e : p ≡ 0 = omega arith in rw e (omega arith)
  cut-rises p (suc q) l =
      elim (cases_lt p (suc q)) [
        | inl m ↦ go (cuts (suc q)) (cut-rises p q (omega arith)) (cut-low p)
        | inr m ↦ (let e : p ≡ suc q = omega arith in rw e (omega arith))
      ]
    where
      go : (b : Bool) → cut_at cuts p ≤ cut_at cuts q → cut_at cuts p ≤ p → cut_at cuts p ≤ cond b (suc q) (cut_at cuts q)
      go true below low = omega arith
      go false below low = below

  -- a position that is not before another's cut has no earlier cut
  pub cut-kept : (s p : ℕ) → cut_at cuts s ≤ p → cut_at cuts s ≤ cut_at cuts p
  cut-kept zero p l = omega arith
  cut-kept (suc s) p l = go (cuts (suc s)) refl (cut-kept s p) l
    where
      go : (b : Bool) → cuts (suc s) ≡ b → (cut_at cuts s ≤ p → cut_at cuts s ≤ cut_at cuts p) → cond b (suc s) (cut_at cuts s) ≤ p
          → cond b (suc s) (cut_at cuts s) ≤ cut_at cuts p
      go true e earlier l = let rises = cut-rises (suc s) p l in rw e at rises
      go false e earlier l = earlier l

  -- the cut of a cut is that cut
  pub cut-again : (p : ℕ) → cut_at cuts (cut_at cuts p) ≡ cut_at cuts p
  cut-again p = let low = cut-low (cut_at cuts p) in let kept = cut-kept p (cut_at cuts p) (omega arith) in omega arith

  -- a cut that is not above the position is not above its greatest
  pub cut-above : (c p : ℕ) → cuts c ≡ true → c ≤ p → c ≤ cut_at cuts p
  cut-above zero p e l = omega arith
  cut-above (suc c) p e l = let rises = cut-rises (suc c) p l in rw e at rises

  -- where no cut lies between, the greatest cut is not above an earlier position
  pub cut-under : (low p : ℕ) → ((q : ℕ) → low < q → q ≤ p → cuts q ≡ false) → cut_at cuts p ≤ low
  cut-under low zero none = omega arith
  cut-under low (suc p) none = go (cuts (suc p)) refl (cut-under low p (λ q from to. none q from (omega arith)))
    where
      go : (b : Bool) → cuts (suc p) ≡ b → cut_at cuts p ≤ low → cond b (suc p) (cut_at cuts p) ≤ low
      go true e earlier =
          elim (cases_lt low (suc p)) [
            | inl above ↦ absurd (both_ways (cuts (suc p)) (none (suc p) above (omega arith)) e)
            | inr under ↦ under
          ]
      go false e earlier = earlier

  pub back-within : (struck front q : ℕ) → Contains (back cuts struck front) q → (cut_at cuts struck ≤ q) × (q < front)
  back-within struck front q c =
      let w = numbers-within (cut_at cuts struck) (front - cut_at cuts struck) q c in
      let low = w.0 in
      let high = w.1 in
      (low, omega arith)

  pub back-has : (struck front q : ℕ) → cut_at cuts struck ≤ q → q < front → Contains (back cuts struck front) q
  back-has struck front q low high = numbers-has (cut_at cuts struck) (front - cut_at cuts struck) q low (omega arith)

  pub back-is : (struck front q : ℕ) → Contains (back cuts struck front) q ↔ ((cut_at cuts struck ≤ q) × (q < front))
  back-is struck front q = (back-within struck front q, λ w. back-has struck front q w.0 w.1)

  -- as a test
  pub redone : (struck front q : ℕ) → cut_at cuts struck ≤ q → q < front → is_member q (back cuts struck front) ≡ true
  redone struck front q low high = (is_member-is q (back cuts struck front)).1 (back-has struck front q low high)

  pub unredone : (struck front q : ℕ) → q < cut_at cuts struck → is_member q (back cuts struck front) ≡ false
  unredone struck front q before =
      false_from_ne_true _
      (λ e.
      (let low = (back-within struck front q ((is_member-is q (back cuts struck front)).0 e)).0 in
      omega arith))

  -- the dependents of a position are rolled back with it
  pub dependents-roll : (clash : ℕ → ℕ → Bool) (struck front q : ℕ) → Contains (dependents clash struck front) q
      → Contains (back cuts struck front) q
  dependents-roll clash struck front q c =
      let d = (dependents-are clash struck front q).0 c in
      let low : struck ≤ q = IsDependent-from (λ a b. clash a b ≡ true) struck front d in
      let high : q < front = IsDependent-front (λ a b. clash a b ≡ true) struck front d in
      let cut = cut-low struck in
      back-has struck front q (omega arith) high

  module _ (dependence : Dependence) where
    pub rolls-struck : RedoesStruck (rolling cuts dependence)
    rolls-struck struck front l = back-has struck front struck (cut-low struck) l

    pub rolls-conflicts : RedoesConflicts (rolling cuts dependence)
    rolls-conflicts =
        record {
          below = λ struck front p h. (back-within struck front p h).1;
          closed = λ struck front p q h l m c. (let low = (back-within struck front p h).0 in back-has struck front q (omega arith) m);
        }

    -- a rollback gives a new attempt to each position from its cut on that was issued, and keeps those of the positions before it
    redo-attempt : (at : Stage) (struck q : ℕ) (b : Bool) → is_member q (back cuts struck at.progress.front) ≡ b
        → present (restarted (rolling cuts dependence) at (Some struck)) q ≡ present at q + cond b 1 0
    redo-attempt at struck q b e =
        attempt-push at.progress.made (restart_of (rolling cuts dependence) at.progress struck) q ∙ ap (λ x. present at q + cond x 1 0) e

    pub attempt-raised : (at : Stage) (struck q : ℕ) → cut_at cuts struck ≤ q → q < at.progress.front
        → present (restarted (rolling cuts dependence) at (Some struck)) q ≡ present at q + 1
    attempt-raised at struck q from issued = redo-attempt at struck q true (redone struck at.progress.front q from issued)

    pub attempt-kept : (at : Stage) (struck q : ℕ) → q < cut_at cuts struck
        → present (restarted (rolling cuts dependence) at (Some struck)) q ≡ present at q
    attempt-kept at struck q before =
        let same = redo-attempt at struck q false (unredone struck at.progress.front q before) in omega arith
