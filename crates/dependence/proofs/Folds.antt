-- The two laws of folds: inserting a member late, and removing a part. Each member keeps to its places, and a place in
-- common with a write is a conflict; so members that are not in conflict commute, and so do undoing the one and
-- applying the other (Kept). Both laws go by recursion on the front: the last member is the one that is inserted or
-- removed, or it is passed, since it is not in conflict with that.
use Rattle.std.proofs.Common.{◌≡◌, inl, inr, ℕ, zero, suc, ◌<◌, ◌≤◌, Bool, true, false, cond, nat_eq, refl, sym, ◌∙◌, ap, Some, arith}
use Rattle.std.proofs.lemmas.Bool.{both_ways, cases_eq, eq-eqb, ne_eqb}
use Rattle.task_ast.specs.declared.effect.Effect.{Effect}
use Rattle.task_ast.specs.meaning.State.{Location, State}
use Rattle.task_ast.specs.meaning.Effect.{after}
use Rattle.task_ast.specs.History.{IsNamed, old_of}
use Rattle.task_ast.specs.Fold.{Member, applied, fold}
use Rattle.dependence.specs.Histories.{HasCells}
use Rattle.dependence.specs.Touching.{Agree, done_by, KeepsTo}
use Rattle.dependence.specs.Insertion.{with_position, ClosedBefore}
use Rattle.dependence.specs.Removal.{without, done_in, history_in, undone_part, ClosedAfter, IsPart}
use Rattle.dependence.proofs.Effects.{after_outside, after_same, swap, undo_is, old_named, old_same, HasCells-after}

-- each member keeps to its places, and places in common with a write are a conflict
pub record Kept (Writes Sees : ℕ → Location → Type 0) (Clash : ℕ → ℕ → Type 0) (members : ℕ → Member) : Type 0 where
  pub keeps : (p : ℕ) → KeepsTo (Writes p) (Sees p) (members p)
  pub sees : (p : ℕ) (place : Location) → Writes p place → Sees p place
  pub writes_first : (p q : ℕ) (place : Location) → Writes p place → Sees q place → Clash p q
  pub writes_second : (p q : ℕ) (place : Location) → Sees p place → Writes q place → Clash p q

module _ (Writes Sees : ℕ → Location → Type 0) (Clash : ℕ → ℕ → Type 0) (members : ℕ → Member) (kept : Kept Writes Sees Clash members) where
  -- a member leaves each place that it may not write
  pub outside : (p : ℕ) (state : State) (place : Location) → (Writes p place → ⊥) → applied (members p) state place ≡ state place
  outside p state place free = after_outside (done_by (members p) state) state place (λ n. free ((kept.keeps p).within state place n))

  -- on states that agree at what it touches and at the place, a member leaves the place the same
  pub agreed : (p : ℕ) (left right : State) (place : Location) → Agree (Sees p) left right → left place ≡ right place
      → applied (members p) left place ≡ applied (members p) right place
  agreed p left right place agree same =
      ap (λ e. after e left place) ((kept.keeps p).same left right agree) ∙ after_same (done_by (members p) right) left right place same

  -- members that are not in conflict commute
  pub apart : (p q : ℕ) → (Clash p q → ⊥) → (state : State)
      → applied (members p) (applied (members q) state) ≡ applied (members q) (applied (members p) state)
  apart p q free state =
      ap (λ e. after e (applied (members q) state))
      ((kept.keeps p).same (applied (members q) state) state
      (λ place t. outside q state place (λ w. free (kept.writes_second p q place t w))))
      ∙ (swap (done_by (members p) state) (done_by (members q) state)
      (λ place n o. free (kept.writes_first p q place ((kept.keeps p).within state place n)
      (kept.sees q place ((kept.keeps q).within state place o)))) state
      ∙ ap (λ e. after e (applied (members p) state))
      (sym ((kept.keeps q).same (applied (members p) state) state
      (λ place t. outside p state place (λ w. free (kept.writes_first p q place w t))))))

  -- so do undoing p and applying q
  pub apart_undone : (p q : ℕ) → (Clash p q → ⊥) → (history : Effect) → ((place : Location) → IsNamed history place → Writes p place)
      → (state : State)
      → after history (applied (members q) state) ≡ applied (members q) (after history state)
  apart_undone p q free history within state =
      swap history (done_by (members q) state) (λ place n o.
      free (kept.writes_first p q place (within place n) (kept.sees q place ((kept.keeps q).within state place o)))) state
      ∙ ap (λ e. after e (after history state)) (sym ((kept.keeps q).same (after history state) state
      (λ place t. after_outside history state place (λ n. free (kept.writes_first p q place (within place n) t)))))

  -- a member has one history on states that agree at what it touches
  pub history_same : (p : ℕ) (left right : State) → Agree (Sees p) left right
      → old_of (done_by (members p) left) left ≡ old_of (done_by (members p) right) right
  history_same p left right agree =
      ap (λ e. old_of e left) ((kept.keeps p).same left right agree)
      ∙ old_same left right (done_by (members p) right) (λ place n. agree place (kept.sees p place ((kept.keeps p).within right place n)))

  module _ (opening : State) where
    -- the fold below n asks of the set only what it holds below n
    pub fold_same : (set other : ℕ → Bool) (n : ℕ) → ((q : ℕ) → q < n → set q ≡ other q)
        → fold members opening set n ≡ fold members opening other n
    fold_same set other zero same = refl
    fold_same set other (suc n) same = rw (same n (omega arith), fold_same set other n (λ q l. same q (omega arith))) refl

    -- the law of insertion
    pub insertion : (set : ℕ → Bool) (p n : ℕ) → ClosedBefore Clash set → set p ≡ false → p < n
        → applied (members p) (fold members opening set n) ≡ fold members opening (with_position set p) n
    insertion set p zero closed out below = absurd (omega arith)
    insertion set p (suc m) closed out below =
        elim (cases_eq m p) [
          | inl e ↦ here e
          | inr ne ↦
              later (omega arith) (ne_eqb m p ne) (insertion set p m closed out (omega arith)) (set m) refl
        ]
      where
        unchanged : (q : ℕ) → q < p → set q ≡ with_position set p q
        unchanged q l = rw (ne_eqb q p (λ e. omega arith)) refl

        here : m ≡ p → applied (members p) (fold members opening set (suc m)) ≡ fold members opening (with_position set p) (suc m)
        here e = rw (e, out, eq-eqb p p refl, fold_same set (with_position set p) p unchanged) refl

        later : p < m → nat_eq m p ≡ false → applied (members p) (fold members opening set m) ≡ fold members opening (with_position set p) m
            → (b : Bool) → set m ≡ b
            → applied (members p) (fold members opening set (suc m)) ≡ fold members opening (with_position set p) (suc m)
        later l other ih true e =
            rw (other, e) (apart p m (λ clash. both_ways (set p) out (closed p m l e clash)) (fold members opening set m)
            ∙ ap (applied (members m)) ih)
        later l other ih false e = rw (other, e) ih

    -- a place that no member of the part writes is the same in the fold of the rest
    pub fold_rest : (set part : ℕ → Bool) (n : ℕ) → ClosedAfter Clash set part → IsPart part set
        → (place : Location) → ((p : ℕ) → p < n → part p ≡ true → Writes p place → ⊥)
        → fold members opening set n place ≡ fold members opening (without set part) n place
    fold_rest set part zero closed inside place free = refl
    fold_rest set part (suc m) closed inside place free = go (part m) (set m) refl refl (fold_rest set part m closed inside)
      where
        go : (b c : Bool) → part m ≡ b → set m ≡ c
            → ((x : Location) → ((p : ℕ) → p < m → part p ≡ true → Writes p x → ⊥)
            → fold members opening set m x ≡ fold members opening (without set part) m x)
            → fold members opening set (suc m) place ≡ fold members opening (without set part) (suc m) place
        go true true e f ih =
            rw (e, f) (outside m (fold members opening set m) place (free m (omega arith) e) ∙ ih place (λ p l. free p (omega arith)))
        go true false e f ih = absurd (both_ways (set m) f (inside m e))
        go false true e f ih =
            rw (e, f) (agreed m (fold members opening set m) (fold members opening (without set part) m) place
            (λ x t. ih x (λ p l h w. both_ways (part m) e (closed p m l h f (kept.writes_first p m x w t))))
            (ih place (λ p l. free p (omega arith))))
        go false false e f ih = rw (e, f) (ih place (λ p l. free p (omega arith)))

    -- the fold of all of a set agrees with the fold of its members before p at what p touches, where no later member is in conflict with p
    pub fold_later : (set : ℕ → Bool) (p n : ℕ) → p ≤ n → ((q : ℕ) → p ≤ q → q < n → set q ≡ true → Clash p q → ⊥)
        → Agree (Sees p) (fold members opening set n) (fold members opening set p)
    fold_later set p zero low free place t = let e : 0 ≡ p = omega arith in ap (λ k. fold members opening set k place) e
    fold_later set p (suc m) low free place t =
        elim (cases_eq p (suc m)) [
          | inl e ↦ ap (λ k. fold members opening set k place) (sym e)
          | inr ne ↦ go (omega arith) (set m) refl (fold_later set p m (omega arith) (λ q l k. free q l (omega arith)) place t)
        ]
      where
        go : p ≤ m → (b : Bool) → set m ≡ b → fold members opening set m place ≡ fold members opening set p place
            → fold members opening set (suc m) place ≡ fold members opening set p place
        go l true e ih =
            rw e (outside m (fold members opening set m) place (λ w. free m l (omega arith) e (kept.writes_second p m place t w)) ∙ ih)
        go l false e ih = rw e ih

    -- a member of the rest finds in the fold of the rest what it found before
    pub rest_agrees : (set part : ℕ → Bool) (q : ℕ) → ClosedAfter Clash set part → IsPart part set → set q ≡ true → part q ≡ false
        → Agree (Sees q) (fold members opening set q) (fold members opening (without set part) q)
    rest_agrees set part q closed inside e f place t =
        fold_rest set part q closed inside place (λ p l h w. both_ways (part q) f (closed p q l h e (kept.writes_first p q place w t)))

    module _ (cells : HasCells opening) where
      pub HasCells-fold : (set : ℕ → Bool) (n : ℕ) → HasCells (fold members opening set n)
      HasCells-fold set zero = cells
      HasCells-fold set (suc n) = go (set n) (HasCells-fold set n)
        where
          go : (b : Bool) → HasCells (fold members opening set n)
              → HasCells (cond b (applied (members n) (fold members opening set n)) (fold members opening set n))
          go true h = HasCells-after (done_by (members n) (fold members opening set n)) (fold members opening set n) h
          go false h = h

      -- a history names only what its position may write
      history_within : (set : ℕ → Bool) (p : ℕ) (place : Location) → IsNamed (history_in members opening set p) place → Writes p place
      history_within set p place n =
          (kept.keeps p).within (fold members opening set p) place
          (old_named (done_in members opening set p) (fold members opening set p) (HasCells-fold set p) place n)

      -- undoing members before q leaves what q does, where none of them is in conflict with q
      undone_later : (set part : ℕ → Bool) (n q : ℕ) → ((p : ℕ) → p < n → part p ≡ true → Clash p q → ⊥) → (state : State)
          → undone_part (λ p. Some (history_in members opening set p)) part n (applied (members q) state)
          ≡ applied (members q) (undone_part (λ p. Some (history_in members opening set p)) part n state)
      undone_later set part zero q free state = refl
      undone_later set part (suc m) q free state = go (part m) refl (undone_later set part m q (λ p l. free p (omega arith)))
        where
          go : (b : Bool) → part m ≡ b
              → ((s : State) → undone_part (λ p. Some (history_in members opening set p)) part m (applied (members q) s)
              ≡ applied (members q) (undone_part (λ p. Some (history_in members opening set p)) part m s))
              → undone_part (λ p. Some (history_in members opening set p)) part (suc m) (applied (members q) state)
              ≡ applied (members q) (undone_part (λ p. Some (history_in members opening set p)) part (suc m) state)
          go true e ih =
              rw e (ap (undone_part (λ p. Some (history_in members opening set p)) part m)
              (apart_undone m q (free m (omega arith) e) (history_in members opening set m) (history_within set m) state)
              ∙ ih (after (history_in members opening set m) state))
          go false e ih = rw e (ih state)

      -- the law of removal
      pub removal : (set part : ℕ → Bool) (n : ℕ) → ClosedAfter Clash set part → IsPart part set
          → undone_part (λ p. Some (history_in members opening set p)) part n (fold members opening set n)
          ≡ fold members opening (without set part) n
      removal set part zero closed inside = refl
      removal set part (suc m) closed inside = go (part m) (set m) refl refl (removal set part m closed inside)
        where
          go : (b c : Bool) → part m ≡ b → set m ≡ c
              → undone_part (λ p. Some (history_in members opening set p)) part m (fold members opening set m)
              ≡ fold members opening (without set part) m
              → undone_part (λ p. Some (history_in members opening set p)) part (suc m) (fold members opening set (suc m))
              ≡ fold members opening (without set part) (suc m)
          go true true e f ih =
              rw (e, f) (ap (undone_part (λ p. Some (history_in members opening set p)) part m)
              (undo_is (done_in members opening set m) (fold members opening set m) (HasCells-fold set m)) ∙ ih)
          go true false e f ih = absurd (both_ways (set m) f (inside m e))
          go false true e f ih =
              rw (e, f) (undone_later set part m m (λ p l h clash. both_ways (part m) e (closed p m l h f clash))
              (fold members opening set m) ∙ ap (applied (members m)) ih)
          go false false e f ih = rw (e, f) ih
