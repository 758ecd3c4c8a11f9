-- The dependents of a position as the least set, and what marks of them say.
use Rattle.std.specs.Prelude.{◌≡◌, ◌↔◌, ℕ, ◌<◌, Bool, true, false, List, length, EachIndex}
use Rattle.std.specs.List.{slice_index_or}
use Rattle.gp_base.specs.declared.footprint.Footprint.{Footprint}
use Rattle.dependence.specs.Conflict.{ClashIn}

-- the least set of positions below `front` that holds `first`, and each position that is later than a member and in conflict with it
pub data IsDependent (Clash : ℕ → ℕ → Type 0) (first front : ℕ) : ℕ → Type 0 where
  itself : first < front → IsDependent Clash first front first
  later : {p q : ℕ} → IsDependent Clash first front p → p < q → q < front → Clash p q → IsDependent Clash first front q

-- exactly the dependents of `first` among the footprints are marked
abbrev pub MarksDependents : List Footprint → ℕ → List Bool → Type 0
MarksDependents feet first marks =
    EachIndex marks (λ q. (slice_index_or marks q false ≡ true) ↔ IsDependent (ClashIn feet) first (length feet) q)

-- an earlier position that is marked is in conflict with this one
abbrev pub IsReached : List Footprint → List Bool → ℕ → Type 0
IsReached feet marks q = (p : ℕ) × (p < q) × (slice_index_or marks p false ≡ true) × ClashIn feet p q
