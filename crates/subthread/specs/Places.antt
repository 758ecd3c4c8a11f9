-- Where a number stands among others.
use Rattle.std.specs.Prelude.{◌≡◌, ◌≢◌, ◌<◌, ℕ, List, length, Option, Some, None, slice_index}

-- the place of a number among these, or none where it isn't there
abbrev pub IsPlaceIn : List ℕ → (number : ℕ) → Option ℕ → Type 0
IsPlaceIn numbers n None = (k : ℕ) → k < length numbers → slice_index numbers k ≢ n
IsPlaceIn numbers n (Some k) = (k < length numbers) × (slice_index numbers k ≡ n)
