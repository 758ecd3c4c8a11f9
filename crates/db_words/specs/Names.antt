-- The name of a run among words.
use Rattle.std.specs.Prelude.{ℕ, suc, List, [], ◌∷◌, ◌++◌, take, drop, Option, Some, None, option_map, codes, if◌then◌else◌}
use Rattle.std.specs.Str.{bytes_eq}
use Rattle.clap.specs.Words.{Text}

-- the place of the option of the name, or the number of the words where it isn't there
abbrev pub name_place : List Text → ℕ
name_place [] = 0
name_place (word ∷ words) = if bytes_eq word (codes "--name") then 0 else suc (name_place words)

-- the name that stands after its option, and the words after that
abbrev pub named_by : List Text → Option (Text × List Text)
named_by [] = None
named_by (option ∷ []) = None
named_by (option ∷ name ∷ after) = Some (name, after)

-- the name, and all other words
abbrev pub named_in : List Text → Option (Text × List Text)
named_in words =
    let place = name_place words in
    option_map (λ named. (named.0, take place words ++ named.1)) (named_by (drop place words))
