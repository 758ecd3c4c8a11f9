-- Laws of the definitions.
use Rattle.std.specs.Prelude.{◌≡◌, ℕ, ◌<◌, ◌≤◌, ℤ, List, zip, option_map, take, slice_get}
use Rattle.task_ast.specs.meaning.Body.{follow}
use Rattle.task_ast.specs.Body.{after_turn}
use Rattle.task_ast.specs.meaning.Control.{Setting, Point, step, size, tree_body}
use Rattle.task_ast.specs.meaning.Repeat.{steps, state_after, go_on}
use Rattle.task_ast.specs.Repeat.{step_of}
use Rattle.task_ast.specs.Table.{Table}
use Rattle.task_ast.specs.Turn.{Ended, turn, turns_left, next_issue}
use Rattle.task_ast.specs.meaning.Tree.{Name, Expr, Program}
use Rattle.gp_base.specs.declared.limits.Limits.{Limits}
use Rattle.gp_base.specs.declared.feed.Inputs.{Inputs}
use Rattle.gp_base.specs.declared.ending.End.TheVariants.{Finished}
use Rattle.task_ast.specs.declared.env.Env.{Env}
use Rattle.task_ast.specs.meaning.Value.{value}
use Rattle.task_ast.specs.meaning.Action.{of_registers}
use Rattle.task_ast.specs.Plain.{Plain, move}

-- an expression has a value for all registers or for none, and it is that of its function
abbrev pub ValueLaw : Type 0
ValueLaw =
    (names : List Name) (values : List ℤ) (e : Expr) (env : Env)
    → value e (record env { regs = zip names values }) ≡ option_map (λ f. f values) (of_registers names e env)

-- a body is one step, and then the body from there
abbrev pub BodyLaw : Type 0
BodyLaw =
    (s : Setting) (turns : ℕ) (p : Point) → tree_body s turns p ≡ follow p (step s p) (tree_body s turns) (after_turn (step s) size turns)

-- `next_issue` is one turn, and then the same again where the turn passes
abbrev pub TurnLaw : Type 0
TurnLaw = (table : Table) → next_issue table ≡ go_on turn turns_left (Ended Finished) next_issue (turn table)

-- the first steps of a run are those of a shorter run
abbrev pub PrefixLaw : Type 0
PrefixLaw =
    (program : Program) (inputs : Inputs) (limits : Limits) (k n : ℕ) (start : Plain) → k ≤ n
    → take k (steps (move program inputs limits) n start) ≡ steps (move program inputs limits) k start

-- the step at a position is the one that the state before it makes
abbrev pub PositionLaw : Type 0
PositionLaw =
    (program : Program) (inputs : Inputs) (limits : Limits) (p n : ℕ) (start : Plain) → p < n
    → slice_get (steps (move program inputs limits) n start) p
    ≡ step_of (move program inputs limits) (move program inputs limits (state_after (move program inputs limits) p start))
