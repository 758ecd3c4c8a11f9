-- When the files of a shelf have names of their own.
use Rattle.std.specs.Prelude.{◌&&◌, not, Bool, true, IsTrue, is_some, [], ◌∷◌, ℕ, List}
use Rattle.std.specs.Map.{lookup}
use Rattle.std.specs.Str.{bytes_eq}

-- no name stands twice
abbrev pub are_distinct : List (List ℕ × List ℕ) → Bool
are_distinct [] = true
are_distinct (file ∷ files) = not (is_some (lookup (bytes_eq file.0) files)) && are_distinct files

abbrev pub HasDistinctNames : List (List ℕ × List ℕ) → Type 0
HasDistinctNames files = IsTrue (are_distinct files)
