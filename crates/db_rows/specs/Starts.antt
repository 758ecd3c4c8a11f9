-- How the text of rows begins.
use Rattle.std.specs.Prelude.{ℕ, ◌<◌, List, [], ◌∷◌, ⊤}

-- the first byte is none of a byte order mark
abbrev pub Starts : List ℕ → Type 0
Starts [] = ⊤
Starts (b ∷ rest) = b < 239
