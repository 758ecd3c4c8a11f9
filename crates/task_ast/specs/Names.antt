-- The second ones of pairs.
use Rattle.std.specs.Prelude.{List, [], ◌∷◌}
use Rattle.task_ast.specs.meaning.Tree.{Name}

abbrev pub seconds : {T : Type 0} → List (Name × T) → List T
seconds [] = []
seconds (pair ∷ pairs) = pair.1 ∷ seconds pairs
