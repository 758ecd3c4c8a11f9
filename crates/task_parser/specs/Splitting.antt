-- How a text splits into spaces, comments and tokens, and where it can't.
use Rattle.std.specs.Prelude.{◌≡◌, ◌≢◌, ℕ, ◌+◌, ◌-◌, ◌≤◌, ◌<◌, ◌⊎◌, false, List, [], ◌∷◌, ◌++◌, length, drop, take, Ok, Err, pos, All, slice_range}
use Rattle.gp_base.specs.declared.limits.TheConstants.{MOST_PROGRAM_BYTES}
use Rattle.task_parser.specs.declared.token.Token.{Token}
use Rattle.task_parser.specs.declared.token.Kind.{Kind}
use Rattle.task_parser.specs.declared.token.Kind.TheVariants.{Num}
use Rattle.task_parser.specs.declared.fault.LexFault.{LexFault}
use Rattle.task_parser.specs.declared.fault.LexFault.TheVariants.{BadByte, NumberTooBig, TooLong, OutOfMemory}
use Rattle.task_parser.specs.meaning.Pieces.{is_space, number_limit}
use Rattle.task_parser.specs.TokenTable.{IsToken, IsInRange, IsLongest, IsGap}
use Rattle.task_parser.specs.meaning.Lexing.{lexed, token_after, line_after}

-- After the bytes before it, a text splits into spaces, comments and tokens, the longest token at each place. They give
-- the tokens, and something may be left.
pub data Splits : List ℕ → List ℕ → List Token → List ℕ → Type 0 where
  nothing : {before text : List ℕ} → Splits before text [] text
  gap : {before rest left : List ℕ} {tokens : List Token} (skipped : List ℕ) → IsGap skipped rest
      → Splits (before ++ skipped) rest tokens left → Splits before (skipped ++ rest) tokens left
  token : {before rest left : List ℕ} {tokens : List Token} (kind : Kind) (bytes : List ℕ)
      → IsToken kind bytes → IsInRange kind → IsLongest (length bytes) (bytes ++ rest)
      → Splits (before ++ bytes) rest tokens left → Splits before (bytes ++ rest) (token_after before kind (length bytes) ∷ tokens) left

-- the bytes begin a token, or are none
abbrev pub CanBegin : List ℕ → Type 0
CanBegin begun = (begun ≡ []) ⊎ ((kind : Kind) × (more : List ℕ) × IsToken kind (begun ++ more))

-- neither a token goes on so, nor, where none is begun, does a space or a comment begin so; a text ends inside a token
abbrev pub CannotGoOn : List ℕ → List ℕ → Type 0
CannotGoOn begun [] = begun ≢ []
CannotGoOn begun (next ∷ rest) =
    ((kind : Kind) (more : List ℕ) → IsToken kind (begun ++ next ∷ more) → ⊥) × (begun ≡ [] → (is_space next ≡ false) × (next ≢ 35))

-- these bytes begin a token and aren't one, and what follows can't go on with them
pub record StopsShort (begun rest : List ℕ) : Type 0 where
  pub can_begin : CanBegin begun
  pub not_whole : (kind : Kind) → IsToken kind begun → ⊥
  pub cannot_go_on : CannotGoOn begun rest

-- the longest token at the front is a number beyond the range
pub record BeginsTooBig (text : List ℕ) : Type 0 where
  pub value : ℕ
  pub bytes : ℕ
  pub within : bytes ≤ length text
  pub is_token : IsToken (Num (pos value)) (take bytes text)
  pub longest : IsLongest bytes text
  pub big : number_limit < value

-- what is left has this fault, where so many bytes stand before it
abbrev pub IsStuck : ℕ → List ℕ → LexFault → Type 0
IsStuck from left (BadByte at) = (bytes : ℕ) × (at ≡ from + bytes) × (bytes ≤ length left) × StopsShort (take bytes left) (drop bytes left)
IsStuck from left (NumberTooBig at) = (at ≡ from) × BeginsTooBig left
IsStuck from left TooLong = ⊥
IsStuck from left OutOfMemory = ⊥

-- a text splits up to where it has a fault
pub record StopsAt (before text : List ℕ) (fault : LexFault) : Type 0 where
  pub front : List ℕ
  pub left : List ℕ
  pub tokens : List Token
  pub parts : before ++ text ≡ front ++ left
  pub splits : Splits before text tokens left
  pub stuck : IsStuck (length front) left fault

-- the tokens of a lexing are those into which the text splits
abbrev pub LexingsSplit : Type 0
LexingsSplit = (text : List ℕ) (tokens : List Token) → lexed text ≡ Ok tokens → Splits [] text tokens []

-- a token's bytes are a token of the table, the longest at its place, and its line is one more than the LF bytes before it
pub record IsPlaced (text : List ℕ) (token : Token) : Type 0 where
  pub is_token : IsToken token.kind (slice_range text token.from token.to)
  pub longest : IsLongest (token.to - token.from) (drop token.from text)
  pub line_is : token.line ≡ line_after (take token.from text)

-- the tokens stand from a place on, one after the other
abbrev pub AreInOrder : ℕ → List Token → Type 0
AreInOrder place [] = Unit {0}
AreInOrder place (first ∷ others) = (place ≤ first.from) × AreInOrder first.to others

-- the tokens of a lexing stand in order, each in its place
abbrev pub TokensArePlaced : Type 0
TokensArePlaced =
    (text : List ℕ) (tokens : List Token) → lexed text ≡ Ok tokens → All (λ token. IsPlaced text token) tokens × AreInOrder 0 tokens

-- and a text that isn't too long and splits to its end is lexed so
abbrev pub SplittingsAreLexed : Type 0
SplittingsAreLexed =
    (text : List ℕ) (tokens : List Token) → length text ≤ MOST_PROGRAM_BYTES → Splits [] text tokens [] → lexed text ≡ Ok tokens

-- a text whose lexing is a fault, and that isn't too long, splits up to that fault
abbrev pub FaultsStop : Type 0
FaultsStop = (text : List ℕ) (fault : LexFault) → length text ≤ MOST_PROGRAM_BYTES → lexed text ≡ Err fault → StopsAt [] text fault
