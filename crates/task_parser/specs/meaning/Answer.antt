-- What parsing answers.
use Rattle.std.specs.Prelude.{◌≡◌, ℕ, true, false, List, [], ◌∷◌, length}
use Rattle.task_parser.specs.declared.token.Token.{Token}
use Rattle.task_parser.specs.declared.fault.ParseFault.{ParseFault}
use Rattle.task_parser.specs.declared.fault.ParseFault.TheVariants.{Unexpected, TooDeep, OutOfMemory}
use Rattle.task_parser.specs.meaning.Expressions.{Text}
use Rattle.task_parser.specs.meaning.Promise.{StopFirst}

-- where the rest of the tokens begins in the text
abbrev pub offset_of : Text → List Token → ℕ
offset_of text [] = length text
offset_of text (t ∷ ts) = t.from

-- The fault is the first one, and stands at its place.
abbrev pub IsFirstFault : Text → List Token → ParseFault → Type 0
IsFirstFault text tokens OutOfMemory = Unit {0}
IsFirstFault text tokens (Unexpected at) =
    (rest : List Token) × (at ≡ offset_of text rest) × StopFirst text tokens (record { deep = false; rest = rest })
IsFirstFault text tokens (TooDeep at) =
    (rest : List Token) × (at ≡ offset_of text rest) × StopFirst text tokens (record { deep = true; rest = rest })
