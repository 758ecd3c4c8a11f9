-- What the bytes of a text stand for, or where they have their first fault.
use Rattle.std.specs.Prelude.{◌≡◌, ◌≢◌, List, Ok, Err}
use Rattle.task_ast.specs.meaning.Tree.{Program}
use Rattle.task_parser.specs.declared.token.Token.{Token}
use Rattle.task_parser.specs.declared.fault.LexFault.{LexFault}
use Rattle.task_parser.specs.declared.fault.ParseFault.{ParseFault}
use Rattle.task_parser.specs.declared.fault.ParseFault.TheVariants.{OutOfMemory}
use Rattle.task_parser.specs.meaning.Lexing.{lexed}
use Rattle.task_parser.specs.meaning.Expressions.{Text}
use Rattle.task_parser.specs.meaning.Promise.{StandFor}
use Rattle.task_parser.specs.meaning.Answer.{IsFirstFault}

-- The bytes stand for the program.
pub record Spells (text : Text) (p : Program) : Type 0 where
  pub tokens : List Token
  pub lexes : lexed text ≡ Ok tokens
  pub stands : StandFor text tokens p

-- The tokens of the text have this fault first.
pub record HasFault (text : Text) (tokens : List Token) (fault : ParseFault) : Type 0 where
  pub known : fault ≢ OutOfMemory
  pub first : IsFirstFault text tokens fault

-- The bytes are tokens, which have this fault first.
pub record Misspells (text : Text) (fault : ParseFault) : Type 0 where
  pub tokens : List Token
  pub lexes : lexed text ≡ Ok tokens
  pub fails : HasFault text tokens fault

-- what can be said of a text: the program that it stands for, or its first fault
pub data Meaning : Type 0 where
  Stands : Program → Meaning
  LexFails : LexFault → Meaning
  ParseFails : ParseFault → Meaning

abbrev pub Means : Text → Meaning → Type 0
Means text (Stands p) = Spells text p
Means text (LexFails fault) = lexed text ≡ Err fault
Means text (ParseFails fault) = Misspells text fault
