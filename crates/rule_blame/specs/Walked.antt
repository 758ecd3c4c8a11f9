-- What a walk over a block leaves.
use Rattle.std.specs.Prelude.{ℕ, List}
use Rattle.task_ast.specs.meaning.Tree.{Block}
use Rattle.task_ast.specs.meaning.Declarations.{Scope}
use Rattle.task_ast.specs.meaning.Held.{Pair, held_at_end}
use Rattle.rule_blame.specs.declared.points.Walked.{Walked}
use Rattle.rule_blame.specs.Points.{points_in}
use Rattle.rule_blame.specs.Views.{pairs_of}
use Rattle.rule_blame.specs.Told.{Walks}

-- a block was walked over from these pairs
abbrev pub HasWalked : Scope → (line : ℕ) → Block → List Pair → Walked → Type 0
HasWalked s line body held walked = Walks s line (points_in body held) (pairs_of walked.held.items) (held_at_end body held) walked.found
