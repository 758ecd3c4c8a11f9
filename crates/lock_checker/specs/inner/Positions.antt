-- The lock cells over record cells, and the places of each.
use Rattle.std.specs.Prelude.{ℕ, suc, ◌==◌, cond, List, [], ◌∷◌, ◌++◌, Option, Some, None}
use Rattle.task_ast.specs.declared.tree.Head.{Head}
use Rattle.task_ast.specs.declared.tree.Head.TheVariants.{RecHead}
use Rattle.task_ast.specs.meaning.Tree.{Name}
use Rattle.task_ast.specs.meaning.Names.{natural}
use Rattle.task_ast.specs.Layout.{base_of}
use Rattle.task_ast.specs.meaning.Table.{numbers}

-- the places of a number in a list whose first place is given
abbrev pub positions : (from : ℕ) → List ℕ → (number : ℕ) → List ℕ
positions from [] number = []
positions from (x ∷ xs) number = cond (number == x) (from ∷ positions (suc from) xs number) (positions (suc from) xs number)

-- so many numbers from a first one, where there is one
abbrev pub numbers_at : Option ℕ → (count : ℕ) → List ℕ
numbers_at None count = []
numbers_at (Some from) count = numbers from count

-- the lock cells over the record cells of these heads
abbrev pub cells_over : List (Name × ℕ) → List Head → List ℕ
cells_over arrays [] = []
cells_over arrays (RecHead name size by from line ∷ heads) = numbers_at (base_of arrays by) (natural size) ++ cells_over arrays heads
cells_over arrays (head ∷ heads) = cells_over arrays heads
