-- The bytes of printed lines.
use Rattle.std.specs.Prelude.{ℕ, ℤ, List, [], ◌∷◌, ◌++◌, codes, flat_map}
use Rattle.std.specs.Fmt.{signed_decimal}

-- each value in decimal after a space
abbrev pub spaced : List ℤ → List ℕ
spaced = flat_map (λ value. codes " " ++ signed_decimal value)

-- the values with a space between each two
abbrev pub printed_line : List ℤ → List ℕ
printed_line [] = codes "\n"
printed_line (value ∷ values) = signed_decimal value ++ (spaced values ++ codes "\n")

abbrev pub printed : List (List ℤ) → List ℕ
printed = flat_map printed_line
