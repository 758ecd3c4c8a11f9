-- Laws of what goes on step by step.
use Rattle.std.proofs.Common.{◌≡◌, ℕ, zero, suc, ◌+◌, ◌<◌, ◌≤◌, List, ◌∷◌, take, Some, None, refl, sym, ap, ◌∙◌, subst, arith}
use Rattle.std.specs.Prelude.{slice_get}
use Rattle.task_ast.specs.meaning.Repeat.{Again, More, Done, go_on, repeated, until_done, Move, Goes, Ends, steps_from, steps, state_from, state_after}
use Rattle.task_ast.specs.Repeat.{IsFalling, step_of}

module _ {A B : Type 0} (turn : A → Again A B) (size : A → ℕ) (none : B) (falling : IsFalling turn size) where
  go_on_same : (r : Again A B) (f g : A → B) → ((a : A) → r ≡ More a → f a ≡ g a) → go_on turn size none f r ≡ go_on turn size none g r
  go_on_same (More a) f g same = same a refl
  go_on_same (Done b) f g same = refl

  enough : (m n : ℕ) (a : A) → size a < m → size a < n → repeated turn size none m a ≡ repeated turn size none n a
  unfolding repeated
  enough zero n a below_m below_n = absurd (omega arith)
  enough (suc m) zero a below_m below_n = absurd (omega arith)
  enough (suc m) (suc n) a below_m below_n =
      go_on_same (turn a) (repeated turn size none m) (repeated turn size none n)
      (λ b is. let less = falling.falls a b is in enough m n b (omega arith) (omega arith))

  -- one turn, and then the same again
  pub until_done_step : (a : A) → until_done turn size none a ≡ go_on turn size none (until_done turn size none) (turn a)
  unfolding until_done repeated
  until_done_step a =
      go_on_same (turn a) (repeated turn size none (size a)) (until_done turn size none)
      (λ b is. let less = falling.falls a b is in enough (size a) (suc (size b)) b less (omega arith))

module _ {A S E : Type 0} (move : A → Move A S E) where
  prefix_by : (k : ℕ) (m : Move A S E) (f g : A → List S) → ((b : A) → take k (f b) ≡ g b)
      → take (suc k) (steps_from move m f) ≡ steps_from move m g
  prefix_by k (Goes s b) f g same = ap (λ rest. s ∷ rest) (same b)
  prefix_by k (Ends e) f g same = refl

  -- the first k of n steps
  pub steps_prefix : (k n : ℕ) (a : A) → k ≤ n → take k (steps move n a) ≡ steps move k a
  unfolding steps
  steps_prefix zero n a le = refl
  steps_prefix (suc k) zero a le = absurd (omega arith)
  steps_prefix (suc k) (suc n) a le = prefix_by k (move a) (steps move n) (steps move k) (λ b. steps_prefix k n b (omega arith))

  first_by : (m : Move A S E) (f : A → List S) → slice_get (steps_from move m f) 0 ≡ step_of move m
  first_by (Goes s b) f = refl
  first_by (Ends e) f = refl

  later_by : (p : ℕ) (a : A) (m : Move A S E) (f : A → List S) (after : A → A) → move a ≡ m
      → ((b : A) → slice_get (f b) p ≡ step_of move (move (after b)))
      → slice_get (steps_from move m f) (suc p) ≡ step_of move (move (state_from move a m after))
  later_by p a (Goes s b) f after is same = same b
  later_by p a (Ends e) f after is same = sym (ap (step_of move) is)

  -- the step at a position is the one that the state before it makes
  pub step_at : (p n : ℕ) (a : A) → p < n → slice_get (steps move n a) p ≡ step_of move (move (state_after move p a))
  unfolding steps state_after
  step_at p zero a less = absurd (omega arith)
  step_at zero (suc n) a less = first_by (move a) (steps move n)
  step_at (suc p) (suc n) a less = later_by p a (move a) (steps move n) (state_after move p) refl (λ b. step_at p n b (omega arith))

  -- one more step is made at the end
  pub state_after_next : (n : ℕ) (a : A)
      → state_after move (suc n) a ≡ state_from move (state_after move n a) (move (state_after move n a)) (λ b. b)
  unfolding state_after
  state_after_next zero a = refl
  state_after_next (suc n) a = go (move a) refl (λ b. state_after_next n b)
    where
      go : (m : Move A S E) → move a ≡ m
          → ((b : A) → state_after move (suc n) b ≡ state_from move (state_after move n b) (move (state_after move n b)) (λ c. c))
          → state_from move a m (state_after move (suc n))
          ≡ state_from move (state_from move a m (state_after move n)) (move (state_from move a m (state_after move n))) (λ b. b)
      go (Goes s b) e again = again b
      go (Ends end) e again = sym (ap (λ m. state_from move a m (λ b. b)) e)

  pub state_after_none : (a : A) → a ≡ state_after move 0 a
  unfolding state_after
  state_after_none a = refl

  -- past an end nothing changes
  pub stays_after : (n k : ℕ) (a : A) (end : E) → move (state_after move n a) ≡ Ends end → state_after move (k + n) a ≡ state_after move n a
  stays_after n zero a end e = ap (λ m. state_after move m a) (omega arith)
  stays_after n (suc k) a end e =
      let same = stays_after n k a end e in
      ap (λ m. state_after move m a) (omega arith)
      ∙ (state_after_next (k + n) a
      ∙ (ap (λ b. state_from move b (move b) (λ c. c)) same ∙ ap (λ m. state_from move (state_after move n a) m (λ c. c)) e))

  -- the move at a position of the steps
  pub record StepThere (a : A) (s : S) : Type 0 where
    pub next : A
    pub moves : move a ≡ Goes s next

  no_step : {s : S} → None ≡ Some s → ⊥
  no_step e = cc e

  there_by : (a : A) (m : Move A S E) (s : S) → move a ≡ m → step_of move m ≡ Some s → StepThere a s
  there_by a (Goes other b) s is e = subst (StepThere a) (cc e) (record { next = b; moves = is })
  there_by a (Ends end) s is e = absurd (cc e)

  first_there : (a : A) (m : Move A S E) (f : A → List S) (s : S) → slice_get (steps_from move m f) 0 ≡ Some s → step_of move m ≡ Some s
  first_there a (Goes other b) f s e = e
  first_there a (Ends end) f s e = e

  pub step_there : (n p : ℕ) (a : A) (s : S) → slice_get (steps move n a) p ≡ Some s → StepThere (state_after move p a) s
  unfolding steps state_after
  step_there zero p a s e = absurd (no_step e)
  step_there (suc n) zero a s e = there_by a (move a) s refl (first_there a (move a) (steps move n) s e)
  step_there (suc n) (suc p) a s e = go (move a) e (λ b. step_there n p b s)
    where
      go : (m : Move A S E) → slice_get (steps_from move m (steps move n)) (suc p) ≡ Some s
          → ((b : A) → slice_get (steps move n b) p ≡ Some s → StepThere (state_after move p b) s)
          → StepThere (state_from move a m (state_after move p)) s
      go (Goes other b) e again = again b e
      go (Ends end) e again = absurd (no_step e)

  -- where it leads
  pub step_reached : (n p : ℕ) (a : A) (s : S) (e : slice_get (steps move n a) p ≡ Some s)
      → state_after move (suc p) a ≡ (step_there n p a s e).next
  step_reached n p a s e =
      let step = step_there n p a s e in
      state_after_next p a ∙ ap (λ m. state_from move (state_after move p a) m (λ b. b)) step.moves
