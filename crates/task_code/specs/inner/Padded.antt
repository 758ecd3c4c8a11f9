-- Values with zeros after them.
use Rattle.std.specs.Prelude.{ℕ, ◌-◌, ℤ, pos, List, ◌++◌, take, length, replicate}

-- the first so many of these values, and 0 up to the whole count
abbrev pub padded : (most count : ℕ) → List ℤ → List ℤ
padded most count values = take most values ++ replicate (count - length (take most values)) (pos 0)
