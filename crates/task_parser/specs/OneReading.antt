-- The laws of what tokens and texts stand for: one program, or else one first fault.
use Rattle.std.specs.Prelude.{◌≡◌, ◌⊎◌, List}
use Rattle.task_ast.specs.meaning.Tree.{Program}
use Rattle.task_parser.specs.declared.token.Token.{Token}
use Rattle.task_parser.specs.declared.fault.ParseFault.{ParseFault}
use Rattle.task_parser.specs.meaning.Expressions.{Text}
use Rattle.task_parser.specs.meaning.Promise.{Stop}
use Rattle.task_parser.specs.meaning.Promise.{StandFor, StopFirst}
use Rattle.task_parser.specs.meaning.Spelling.{Spells, HasFault, Meaning, Means}

-- tokens stand for a program, or have a first fault
abbrev pub ProgramOrFault : Type 0
ProgramOrFault =
    (text : Text) (tokens : List Token) → ((p : Program) × StandFor text tokens p) ⊎ ((stop : Stop) × StopFirst text tokens stop)

-- they stand for at most one program
abbrev pub OneProgram : Type 0
OneProgram = (text : Text) (tokens : List Token) (a b : Program) → StandFor text tokens a → StandFor text tokens b → a ≡ b

-- what stands for a program has no fault
abbrev pub NoFault : Type 0
NoFault = (text : Text) (tokens : List Token) (p : Program) (stop : Stop) → StandFor text tokens p → StopFirst text tokens stop → ⊥

-- there is at most one first fault
abbrev pub OneFault : Type 0
OneFault = (text : Text) (tokens : List Token) (a b : Stop) → StopFirst text tokens a → StopFirst text tokens b → a ≡ b

-- by its place too
abbrev pub OnePlace : Type 0
OnePlace = (text : Text) (tokens : List Token) (a b : ParseFault) → HasFault text tokens a → HasFault text tokens b → a ≡ b

-- each text has a meaning: a program, or its first fault of lexing or of parsing
abbrev pub SomeMeaning : Type 0
SomeMeaning = (text : Text) → (meaning : Meaning) × Means text meaning

-- it has no more than one
abbrev pub OneMeaning : Type 0
OneMeaning = (text : Text) (a b : Meaning) → Means text a → Means text b → a ≡ b

-- so it stands for at most one program
abbrev pub OneSpelling : Type 0
OneSpelling = (text : Text) (a b : Program) → Spells text a → Spells text b → a ≡ b
