-- Blames as parts of the walk find them.
use Rattle.std.specs.Prelude.{◌≡◌, ℕ, List, Contains, Option, MatchOption}
use Rattle.task_ast.specs.meaning.Tree.{TaskText, What, Stmt, Block}
use Rattle.task_ast.specs.meaning.Declarations.{Scope}
use Rattle.task_ast.specs.meaning.Held.{Pair, held_after, held_by, held_at_end}
use Rattle.rule_blame.specs.declared.blames.Blame.{Blame}
use Rattle.rule_blame.specs.declared.blames.Blame.TheVariants as blame
use Rattle.rule_blame.specs.declared.blames.Many.TheVariants as many
use Rattle.rule_blame.specs.Points.{Point, points_of, points_in, points_inside}
use Rattle.rule_blame.specs.DeclaredNames.{variables, IsTwice}
use Rattle.rule_blame.specs.Blames.{IsTrueOf, HasVariables}

-- it is true of the variables of a task
abbrev pub IsTrueOfTask : TaskText → (line : ℕ) → Blame → Type 0
IsTrueOfTask task line (blame.VariableTwice dollar name first) = IsTwice (variables dollar task) name.now first line
IsTrueOfTask task line (blame.TooMany many.Variables name count) = HasVariables name.now count task
IsTrueOfTask task line told = ⊥

-- it is true of one of these statements, which stands in the line
pub record IsTrueAmong (s : Scope) (line : ℕ) (points : List Point) (told : Blame) : Type 0 where
  pub point : Point
  pub stands : Contains points point
  pub in_line : point.line ≡ line
  pub is : IsTrueOf s point told

-- a walk over statements told of one of them, or came to the pairs held after them
abbrev pub Walks : Scope → (line : ℕ) → List Point → (now after : List Pair) → Option Blame → Type 0
Walks s line points now after found = MatchOption found (now ≡ after) (IsTrueAmong s line points)
