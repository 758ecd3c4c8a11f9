-- The names that references point to.
use Rattle.std.specs.Prelude.{List, map}
use Rattle.std.specs.Borrow.{Bor}
use Rattle.task_ast.specs.meaning.Tree.{Name}

-- what a reference to a name points to
abbrev pub target : Bor Name → Name
target r = r.now

abbrev pub targets : List (Bor Name) → List Name
targets names = map target names
