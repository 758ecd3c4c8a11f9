-- What parts know of a body.
use Rattle.std.specs.Prelude.{◌≡◌, ℕ, zero, suc, ◌<◌, Option, Some, None}
use Rattle.task_ast.specs.meaning.Action.{Action}
use Rattle.task_ast.specs.meaning.Body.{Act, Body, Silent, Step, body}

-- a size falls at each step but a loop turn, so a stretch without a turn is at most that long
pub record IsSized {P : Type 0} (step : P → Step P) (size : P → ℕ) : Type 0 where
  pub silent : (p q : P) → step p ≡ Silent q → size q < size p
  pub acts : (p q : P) (a : Action) → step p ≡ Act a q → size q < size p

module _ {P : Type 0} (step : P → Step P) (size : P → ℕ) where
  -- what a loop turn leads to, where one is still allowed
  abbrev pub after_turn : (turns : ℕ) → Option (P → Body P)
  after_turn zero = None
  after_turn (suc turns) = Some (body step size turns)
