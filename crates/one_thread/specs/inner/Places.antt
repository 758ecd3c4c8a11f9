-- The place of a name among variables.
use Rattle.std.specs.Prelude.{◌≡◌, ◌<◌, ℕ, ℤ, List, length, get_or, set, Option, Some, None}
use Rattle.task_ast.specs.meaning.Tree.{Name}
use Rattle.task_ast.specs.meaning.Control.{with_value}

-- the first variable of the name stands at this place, or none has the name
abbrev pub IsPlaceOf : List (Name × ℤ) → Name → Option ℕ → Type 0
IsPlaceOf names x None = (v : ℤ) → with_value names x v ≡ names
IsPlaceOf names x (Some at) =
    (at < length names) × ((p : Name × ℤ) (v : ℤ) → p ≡ get_or names at p → with_value names x v ≡ set names at (p.0, v))
