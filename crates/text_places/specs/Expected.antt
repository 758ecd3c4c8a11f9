-- With which kinds of tokens a program goes on where a text has its first fault of parsing.
use Rattle.std.specs.Prelude.{◌≡◌, ◌<◌, ◌+◌, ◌-◌, ◌==◌, ℕ, pos, false, List, [], ◌∷◌, ◌++◌, All, Contains, length, nat_lt, if◌then◌else◌}
use Rattle.task_parser.specs.declared.token.Kind.{Kind}
use Rattle.task_parser.specs.declared.token.Kind.TheVariants.{Num, Name, Reg, Quoted, Word, Mark}
use Rattle.task_parser.specs.declared.token.Token.{Token}
use Rattle.text_places.specs.declared.going.TheConstants.{KINDS}
use Rattle.task_parser.specs.meaning.Words.{Placed, tokens_of}
use Rattle.task_parser.specs.meaning.Expressions.{Text}
use Rattle.task_parser.specs.meaning.Promise.{Begins, StopFirst}

-- a token of this kind past the end of the text
abbrev pub token_past : Text → Kind → Token
token_past text kind = record { kind = kind; from = length text + 1; to = length text + 1; line = 1 }

-- some program of the grammar, of whatever nesting, begins with these tokens and one of this kind
pub record GoesOn (text : Text) (front : List Token) (kind : Kind) : Type 0 where
  pub placed : List Placed
  pub same : tokens_of placed ≡ front ++ token_past text kind ∷ []
  pub begins : Begins text placed

-- these tokens are those before the first fault of a text's tokens, at which no program goes on with the next token
pub record IsFront (text : Text) (tokens front : List Token) : Type 0 where
  pub rest : List Token
  pub parts : tokens ≡ front ++ rest
  pub stops : StopFirst text tokens (record { deep = false; rest = rest })

-- the kinds of tokens: numbers, names, data variables, texts in quotes, the reserved words, the marks
abbrev pub kind_of : ℕ → Kind
kind_of n =
    if n == 0 then Num (pos 1) else if n == 1 then Name else if n == 2 then Reg else if n == 3 then Quoted
    else if nat_lt n 29 then Word (n - 4) else Mark (n - 29)

-- of the first so many kinds these are those with which a program goes on
pub record AreExpected (text : Text) (front : List Token) (most : ℕ) (kinds : List Kind) : Type 0 where
  pub each : All (GoesOn text front) kinds
  pub all : (n : ℕ) → n < most → GoesOn text front (kind_of n) → Contains kinds (kind_of n)

-- these are the kinds with which a program goes on where the tokens of a text have their first fault
pub record IsExpected (text : Text) (tokens : List Token) (kinds : List Kind) : Type 0 where
  pub front : List Token
  pub before : IsFront text tokens front
  pub are : AreExpected text front KINDS kinds
