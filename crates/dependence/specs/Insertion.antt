-- A member that is applied late gives the fold with it.
use Rattle.std.specs.Prelude.{◌≡◌, ◌||◌, ℕ, ◌<◌, Bool, true, false, nat_eq}
use Rattle.gp_base.specs.declared.footprint.Loc.{Loc}
use Rattle.gp_base.specs.declared.footprint.Footprint.{Footprint}
use Rattle.task_ast.specs.meaning.State.{Location, State}
use Rattle.task_ast.specs.Fold.{Member, applied, fold}
use Rattle.dependence.specs.Conflict.{InConflict}
use Rattle.dependence.specs.Touching.{KeepToFeet}

-- a set with one more position
abbrev pub with_position : (ℕ → Bool) → ℕ → ℕ → Bool
with_position set p q = nat_eq q p || set q

-- with a member, each earlier position in conflict with it is in the set
abbrev pub ClosedBefore : (Clash : ℕ → ℕ → Type 0) → (ℕ → Bool) → Type 0
ClosedBefore Clash set = (p q : ℕ) → p < q → set q ≡ true → Clash p q → set p ≡ true

-- the effect of p on the fold of a set gives the fold of the set with p, where the set is closed under earlier conflict and lacks p
abbrev pub InsertionLaw : Type 0
InsertionLaw =
    (location : Location → Loc) (feet : ℕ → Footprint) (members : ℕ → Member) (opening : State) (set : ℕ → Bool) (p front : ℕ)
    → KeepToFeet location feet members → ClosedBefore (InConflict feet) set → set p ≡ false → p < front
    → applied (members p) (fold members opening set front) ≡ fold members opening (with_position set p) front
