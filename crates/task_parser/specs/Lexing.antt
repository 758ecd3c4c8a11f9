-- What a lexer answers.
use Rattle.std.specs.Prelude.{◌≡◌, ℕ, ◌+◌, ◌≤◌, List, length, Err, All}
use Rattle.task_parser.specs.declared.token.Token.{Token}
use Rattle.task_parser.specs.declared.fault.LexFault.{LexFault}
use Rattle.task_parser.specs.declared.fault.LexFault.TheVariants.{OutOfMemory}
use Rattle.task_parser.specs.Pieces.{least_length}
use Rattle.task_parser.specs.meaning.Lexing.{lexed}

-- the text has this fault; want of memory says nothing of the text
abbrev pub IsFaultOf : List ℕ → LexFault → Type 0
IsFaultOf text OutOfMemory = Unit {0}
IsFaultOf text fault = lexed text ≡ Err fault

-- a token lies within a text, and is no shorter than its kind
pub record IsTokenOf (text : List ℕ) (token : Token) : Type 0 where
  pub whole : token.from + least_length token.kind ≤ token.to
  pub within : token.to ≤ length text

-- all tokens lie within the text
abbrev pub AreTokensOf : List ℕ → List Token → Type 0
AreTokensOf text tokens = All (λ token. IsTokenOf text token) tokens
