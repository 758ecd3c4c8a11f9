-- What is repeated until it is done, and what goes on step by step to an end.
use Rattle.std.specs.Prelude.{ℕ, zero, suc, List, [], ◌∷◌}

-- once more from here, or done
pub data Again (A B : Type 0) : Type 0 where
  More : A → Again A B
  Done : B → Again A B

module _ {A B : Type 0} (turn : A → Again A B) (size : A → ℕ) (none : B) where
  -- again from where more is left
  abbrev pub go_on : (A → B) → Again A B → B
  go_on again (More a) = again a
  go_on again (Done b) = b

  -- at most n times; n is enough where it is above the size
  unfoldable pub repeated : ℕ → A → B
  repeated zero a = none
  repeated (suc n) a = go_on (repeated n) (turn a)

  -- turns up to the first that is done
  unfoldable pub until_done : A → B
  until_done a = repeated (suc (size a)) a

-- a step that leads on, or an end
pub data Move (A S E : Type 0) : Type 0 where
  Goes : S → A → Move A S E
  Ends : E → Move A S E

module _ {A S E : Type 0} (move : A → Move A S E) where
  -- the step that a move makes, and then the rest
  abbrev pub steps_from : Move A S E → (A → List S) → List S
  steps_from (Goes s a) rest = s ∷ rest a
  steps_from (Ends e) rest = []

  -- the first n steps, or fewer where the run ends before
  unfoldable pub steps : ℕ → A → List S
  steps zero a = []
  steps (suc n) a = steps_from (move a) (steps n)

  -- the rest from where a move leads, or the state at the end
  abbrev pub state_from : A → Move A S E → (A → A) → A
  state_from a (Goes s b) rest = rest b
  state_from a (Ends e) rest = a

  -- the state after n steps, or at the end where that comes before
  unfoldable pub state_after : ℕ → A → A
  state_after zero a = a
  state_after (suc n) a = state_from a (move a) (state_after n)
