-- Bodies, for any kind of points: those of a tree, or of flat code.
use Rattle.std.specs.Prelude.{ℕ, zero, suc, List, [], ◌∷◌, Option, Some, None}
use Rattle.task_ast.specs.declared.sync.SyncOp.TheVariants as sync
use Rattle.task_ast.specs.declared.sync.Next.{Next}
use Rattle.task_ast.specs.meaning.Action.{Action}

-- one control step, from a point
pub data Step (P : Type 0) : Type 0 where
  Silent : P → Step P
  Iteration : P → Step P
  Act : Action → P → Step P
  Stop : Next → Step P

-- the data actions up to a stop, what comes next, and the point reached
pub record Body (P : Type 0) : Type 0 where
  pub actions : List Action
  pub next : Next
  pub at : P

-- the same body with an action before it
abbrev pub with_action : {P : Type 0} → Action → Body P → Body P
with_action a b = record { actions = a ∷ b.actions; next = b.next; at = b.at }

-- the body that ends at once
abbrev pub stopped : {P : Type 0} → Next → P → Body P
stopped next p = record { actions = []; next = next; at = p }

-- what comes next where the loop turns are spent
abbrev pub spent : Next
spent = record { sync = sync.Spent; line = 0 }

-- what follows one step from p: `go` leads on without a turn, and `turned` after one, where it is allowed
abbrev pub follow : {P : Type 0} → P → Step P → (go : P → Body P) → (turned : Option (P → Body P)) → Body P
follow p (Silent q) go turned = go q
follow p (Act a q) go turned = with_action a (go q)
follow p (Iteration q) go None = stopped spent p
follow p (Iteration q) go (Some turned) = turned q
follow p (Stop next) go turned = stopped next p

module _ {P : Type 0} (step : P → Step P) (size : P → ℕ) where
  -- at most n steps without a turn; n is enough where it is above the size
  unfoldable pub stretch : (turned : Option (P → Body P)) → ℕ → P → Body P
  stretch turned zero p = stopped spent p
  stretch turned (suc n) p = follow p (step p) (stretch turned n) turned

  -- the body from p, of at most so many loop turns
  unfoldable pub body : (turns : ℕ) → P → Body P
  body zero p = stretch None (suc (size p)) p
  body (suc turns) p = stretch (Some (body turns)) (suc (size p)) p
