-- What parts know of a repeated move.
use Rattle.std.specs.Prelude.{◌≡◌, ℕ, ◌<◌, Option, Some, None}
use Rattle.task_ast.specs.meaning.Repeat.{Again, Ends, Goes, More, Move}

-- each time more is left, less is left
pub record IsFalling {A B : Type 0} (turn : A → Again A B) (size : A → ℕ) : Type 0 where
  pub falls : (a b : A) → turn a ≡ More b → size b < size a

module _ {A S E : Type 0} (move : A → Move A S E) where
  -- the step that a move makes, if it leads on
  abbrev pub step_of : Move A S E → Option S
  step_of (Goes s a) = Some s
  step_of (Ends e) = None
