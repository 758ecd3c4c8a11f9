-- Undoing a part of a fold, the newest first, leaves the fold of the rest.
use Rattle.std.specs.Prelude.{◌≡◌, ℕ, zero, suc, ◌<◌, Bool, true, false, cond, Option, Some, None}
use Rattle.gp_base.specs.declared.footprint.Loc.{Loc}
use Rattle.gp_base.specs.declared.footprint.Footprint.{Footprint}
use Rattle.task_ast.specs.declared.effect.Effect.{Effect}
use Rattle.task_ast.specs.meaning.State.{Location, State}
use Rattle.task_ast.specs.meaning.Effect.{after}
use Rattle.task_ast.specs.History.{old_of}
use Rattle.task_ast.specs.Fold.{Member, fold}
use Rattle.dependence.specs.Conflict.{InConflict}
use Rattle.dependence.specs.Histories.{HasCells}
use Rattle.dependence.specs.Touching.{done_by, KeepToFeet}

-- a set without a part
abbrev pub without : (ℕ → Bool) → (ℕ → Bool) → ℕ → Bool
without set part q = cond (part q) false (set q)

-- what the position does in the fold: on the fold of the members below it
abbrev pub done_in : (ℕ → Member) → State → (ℕ → Bool) → ℕ → Effect
done_in members opening set p = done_by (members p) (fold members opening set p)

-- its history: the values of the fold of the members below it, at the places that it names
abbrev pub history_in : (ℕ → Member) → State → (ℕ → Bool) → ℕ → Effect
history_in members opening set p = old_of (done_in members opening set p) (fold members opening set p)

-- the state after a history, where there is one, was given back
abbrev pub undone : Option Effect → State → State
undone None state = state
undone (Some history) state = after history state

-- the members of the part below the front undone from their histories, the newest first
abbrev pub undone_part : (ℕ → Option Effect) → (part : ℕ → Bool) → (front : ℕ) → State → State
undone_part histories part zero state = state
undone_part histories part (suc p) state = undone_part histories part p (cond (part p) (undone (histories p) state) state)

-- with a member of the part, each later member of the set in conflict with it is in the part
abbrev pub ClosedAfter : (Clash : ℕ → ℕ → Type 0) → (set part : ℕ → Bool) → Type 0
ClosedAfter Clash set part = (p q : ℕ) → p < q → part p ≡ true → set q ≡ true → Clash p q → part q ≡ true

-- each member of the part is a member of the set
abbrev pub IsPart : (part set : ℕ → Bool) → Type 0
IsPart part set = (q : ℕ) → part q ≡ true → set q ≡ true

-- undoing a part of a set that is closed under later conflict, the newest first, leaves the fold of the rest
abbrev pub RemovalLaw : Type 0
RemovalLaw =
    (location : Location → Loc) (feet : ℕ → Footprint) (members : ℕ → Member) (opening : State) (set part : ℕ → Bool) (front : ℕ)
    → KeepToFeet location feet members → HasCells opening → ClosedAfter (InConflict feet) set part → IsPart part set
    → undone_part (λ p. Some (history_in members opening set p)) part front (fold members opening set front)
    ≡ fold members opening (without set part) front
