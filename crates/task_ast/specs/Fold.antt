-- The fold of a set of positions: what a history buffer restores, said without old values (J. E. Smith and A. R. Pleszkun,
-- Implementation of precise interrupts in pipelined processors, ISCA 1985).
use Rattle.std.specs.Prelude.{ℕ, zero, suc, ℤ, Bool, List, Option, cond}
use Rattle.task_ast.specs.meaning.Action.{Action}
use Rattle.task_ast.specs.declared.sync.SyncOp.{SyncOp}
use Rattle.task_ast.specs.meaning.State.{State}
use Rattle.task_ast.specs.meaning.Effect.{effect, after}
use Rattle.task_ast.specs.Damage.{damaged}

-- a position with one attempt: its thread, how it begins, its child, its actions, and the mask of the attempt
pub record Member : Type 0 where
  pub thread : ℕ
  pub begins : SyncOp
  pub child : Option ℕ
  pub actions : List Action
  pub mask : ℤ

-- the state after a member's effect
abbrev pub applied : Member → State → State
applied m state = after (damaged m.mask (effect m.thread m.begins m.child m.actions state)) state

-- from the opening state, the effect of each member of the set below the front, in rising order
abbrev pub fold : (ℕ → Member) → State → (set : ℕ → Bool) → (front : ℕ) → State
fold members opening set zero = opening
fold members opening set (suc p) = cond (set p) (applied (members p) (fold members opening set p)) (fold members opening set p)
