-- When two footprints are in conflict (Bernstein's conditions).
use Rattle.std.specs.Prelude.{ℕ, Bool, false, ◌||◌, List, [], None, nat_eq}
use Rattle.std.specs.List.{list_any, slice_index_or}
use Rattle.gp_base.specs.declared.footprint.Loc.{Loc}
use Rattle.gp_base.specs.declared.footprint.Loc.TheVariants.{Regs, Lock, Rec}
use Rattle.gp_base.specs.declared.footprint.Footprint.{Footprint}
use Rattle.task_ast.specs.declared.sync.SyncOp.TheVariants as sync
use Rattle.task_ast.specs.meaning.Footprint.{footprint}

abbrev pub same_location : Loc → Loc → Bool
same_location (Regs thread) (Regs other) = nat_eq thread other
same_location (Lock lock) (Lock other) = nat_eq lock other
same_location (Rec cell) (Rec other) = nat_eq cell other
same_location _ _ = false

-- whether a location of the one list stands in the other
abbrev pub shares : List Loc → List Loc → Bool
shares left right = list_any (λ loc. list_any (same_location loc) right) left

-- `Conflict` as a test
abbrev pub conflicting : Footprint → Footprint → Bool
conflicting first second =
    shares first.writes second.writes || (shares first.writes second.reads || shares first.reads second.writes)

-- the footprint of a subthread that does nothing; such a one stands at each position past the end of a run
abbrev pub idle_foot : Footprint
idle_foot = footprint 0 sync.End None []

-- the footprint at a position, from those of a run
abbrev pub foot_at : List Footprint → ℕ → Footprint
foot_at feet p = slice_index_or feet p idle_foot

-- `ClashIn` as a test
abbrev pub clash_in : List Footprint → ℕ → ℕ → Bool
clash_in feet p q = conflicting (foot_at feet p) (foot_at feet q)
