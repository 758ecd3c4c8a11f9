-- The arguments of a command, and what words stand for them, by the definitions of `clap`.
use Rattle.std.specs.Prelude.{ℕ, Bool, true, false, List, [], ◌∷◌, Option, Some, option_and_then, codes}
use Rattle.std.specs.Option.{option_map_or}
use Rattle.std.specs.Str.{bytes_eq}
use Rattle.clap.specs.Words.{Kinds, Rule, Text, new_rule}
use Rattle.clap.specs.declared.builder.action.ArgAction.TheVariants.{SetTrue}
use Rattle.command_line.specs.meaning.Numbers.{number_between}

-- a required positional, an option with a value, and a flag
abbrev pub positional : Text → Rule
positional name = record (new_rule name) { required = true }

abbrev pub option_of : Text → Rule
option_of name = record (new_rule name) { long = Some name }

abbrev pub flag_of : Text → Rule
flag_of name = record (new_rule name) { long = Some name; action = Some SetTrue }

-- a parse has no fault
abbrev pub is_faultless : Kinds → Bool
is_faultless [] = true
is_faultless (kind ∷ kinds) = false

-- the number of a text, where there is one
abbrev pub number_of : (low high : ℕ) → Option Text → Option ℕ
number_of low high = option_and_then (number_between low high)

-- whether the text of a flag says that it is there
abbrev pub is_on : Option Text → Bool
is_on text = option_map_or (λ said. bytes_eq said (codes "true")) text false

-- the number of an option's text, or another number where there is no text
abbrev pub number_or : (low high other : ℕ) → Option Text → Option ℕ
number_or low high other text = option_map_or (number_between low high) text (Some other)
