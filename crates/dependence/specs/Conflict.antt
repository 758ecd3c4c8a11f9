-- When two footprints are in conflict (Bernstein's conditions), as a statement of locations.
use Rattle.std.specs.Prelude.{◌⊎◌, ℕ, List, Contains}
use Rattle.gp_base.specs.declared.footprint.Loc.{Loc}
use Rattle.gp_base.specs.declared.footprint.Footprint.{Footprint}
use Rattle.dependence.specs.meaning.Conflict.{foot_at}

-- one location stands in both lists
abbrev pub Shared : List Loc → List Loc → Type 0
Shared left right = (loc : Loc) × Contains left loc × Contains right loc

-- one location stands in both footprints, and at least one of the two writes it
abbrev pub Conflict : Footprint → Footprint → Type 0
Conflict first second =
    Shared first.writes second.writes ⊎ Shared first.writes second.reads ⊎ Shared first.reads second.writes

-- the footprints of two positions are in conflict
abbrev pub InConflict : (ℕ → Footprint) → ℕ → ℕ → Type 0
InConflict feet p q = Conflict (feet p) (feet q)

-- so are those of two positions of a run
abbrev pub ClashIn : List Footprint → ℕ → ℕ → Type 0
ClashIn feet = InConflict (foot_at feet)
