-- What stands at the front of bytes.
use Rattle.std.specs.Prelude.{◌≡◌, ◌≢◌, ℕ, Bool, false, List, [], ◌∷◌, ◌++◌, Option, Some, None}
use Rattle.std.specs.Char.{is_ascii_digit}

-- what remains of the bytes after this word, where they begin with it
abbrev pub IsAfter : (word bytes : List ℕ) → Option (List ℕ) → Type 0
IsAfter word bytes (Some rest) = bytes ≡ word ++ rest
IsAfter word bytes None = (rest : List ℕ) → bytes ≢ word ++ rest

abbrev pub begins_with_digit : List ℕ → Bool
begins_with_digit [] = false
begins_with_digit (c ∷ rest) = is_ascii_digit c
