-- Laws of effects and folds.
use Rattle.std.specs.Prelude.{◌≡◌, ℕ, pos, true, List, length, Option, IsTrue}
use Rattle.std.specs.Ordering.{nat_cmp}
use Rattle.std.specs.FinMap.{is_sorted}
use Rattle.gp_base.specs.declared.limits.Limits.{Limits}
use Rattle.gp_base.specs.declared.feed.Inputs.{Inputs}
use Rattle.task_ast.specs.meaning.Tree.{Program}
use Rattle.task_ast.specs.meaning.Action.{Action}
use Rattle.task_ast.specs.declared.sync.SyncOp.{SyncOp}
use Rattle.task_ast.specs.meaning.State.{State}
use Rattle.task_ast.specs.meaning.Repeat.{steps, state_after}
use Rattle.task_ast.specs.declared.effect.Effect.{Effect}
use Rattle.task_ast.specs.meaning.Effect.{effect}
use Rattle.task_ast.specs.Damage.{damaged}
use Rattle.task_ast.specs.Plain.{Plain, move}
use Rattle.task_ast.specs.Fold.{fold}
use Rattle.task_ast.specs.Members.{member_in}

-- an effect writes each cell once, and they rise
abbrev pub WritesLaw : Type 0
WritesLaw =
    (t : ℕ) (begins : SyncOp) (child : Option ℕ) (actions : List Action) (state : State)
    → IsTrue (is_sorted nat_cmp (effect t begins child actions state).writes)

-- mask 0 changes nothing
abbrev pub NoDamageLaw : Type 0
NoDamageLaw = (e : Effect) → damaged (pos 0) e ≡ e

-- the fold of all positions, none of them damaged, is the state that the plain run comes to
abbrev pub FoldLaw : Type 0
FoldLaw =
    (program : Program) (inputs : Inputs) (limits : Limits) (n : ℕ) (start : Plain)
    → fold (member_in (steps (move program inputs limits) n start) (λ p. pos 0)) start.state (λ p. true)
    (length (steps (move program inputs limits) n start))
    ≡ (state_after (move program inputs limits) n start).state
