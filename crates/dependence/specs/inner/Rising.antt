-- Locations in rising order: the registers of threads, then lock cells, then record cells, each by their numbers.
use Rattle.std.specs.Prelude.{◌≡◌, ◌⊎◌, ◌<◌, ℕ, List, length, Some, slice_get}
use Rattle.gp_base.specs.declared.footprint.Loc.{Loc}
use Rattle.gp_base.specs.declared.footprint.Loc.TheVariants.{Regs, Lock, Rec}

abbrev pub kind_of : Loc → ℕ
kind_of (Regs thread) = 0
kind_of (Lock lock) = 1
kind_of (Rec cell) = 2

abbrev pub number_of : Loc → ℕ
number_of (Regs thread) = thread
number_of (Lock lock) = lock
number_of (Rec cell) = cell

-- the one location comes before the other
abbrev pub IsBelow : Loc → Loc → Type 0
IsBelow left right = (kind_of left < kind_of right) ⊎ ((kind_of left ≡ kind_of right) × (number_of left < number_of right))

-- among the first so many, each location comes before every later one
abbrev pub RisesTo : List Loc → ℕ → Type 0
RisesTo locations many =
    (j k : ℕ) (x y : Loc) → j < k → k < many → slice_get locations j ≡ Some x → slice_get locations k ≡ Some y → IsBelow x y

abbrev pub Rises : List Loc → Type 0
Rises locations = RisesTo locations (length locations)

-- the first so many come before the location
abbrev pub AreBelow : List Loc → ℕ → Loc → Type 0
AreBelow locations many loc = (k : ℕ) (x : Loc) → k < many → slice_get locations k ≡ Some x → IsBelow x loc

-- the one at the place, if there is one, does not come before the location
abbrev pub IsNotBelow : List Loc → ℕ → Loc → Type 0
IsNotBelow locations place loc = (x : Loc) → slice_get locations place ≡ Some x → ¬ IsBelow x loc
