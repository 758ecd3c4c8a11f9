-- Which calls of a device in memory fail.
use Rattle.std.specs.Prelude.{ℕ, ◌+◌, ◌-◌, ◌^◌, ◌<◌, List, Contains}

-- after so many calls, the number of the next stands in the list, where it is a number of 64 bits
abbrev pub IsNextListed : List ℕ → ℕ → Type 0
IsNextListed failing made = (made < 2 ^ 64 - 1) × Contains failing (made + 1)
