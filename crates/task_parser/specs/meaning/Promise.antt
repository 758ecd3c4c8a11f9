-- What tokens stand for, and which fault is the first. Each of these texts has its first fault at the byte told:
--     task main() { x = ; }         Unexpected 18, the `;`: up to `=` the tokens begin a program, as do those of
--                                   task main() { x = 1; }, and no program goes on with `;` there
--     task main() {                 Unexpected 13, the length: its tokens begin a program and are no whole one
--     task main() { print ((.. 1    with 65 `(` in a row: TooDeep 84, the 65th, which could stand there if less deep
--     task main() { print 1 ! 2; }  BadByte 23, after the lone `!`: that is a fault of lexing, so no token is looked at
use Rattle.std.specs.Prelude.{◌≡◌, ◌≤◌, ℕ, suc, Bool, true, false, List, [], ◌∷◌, ◌++◌}
use Rattle.gp_base.specs.declared.limits.TheConstants.{DEEPEST_NESTING}
use Rattle.task_ast.specs.meaning.Tree.{Program}
use Rattle.task_parser.specs.declared.token.Token.{Token}
use Rattle.task_parser.specs.meaning.Words.{Placed, tokens_of}
use Rattle.task_parser.specs.meaning.Expressions.{Text}
use Rattle.task_parser.specs.meaning.Programs.{program}

-- the tokens nest no deeper than this
abbrev pub Within : ℕ → List Placed → Type 0
Within limit [] = Unit {0}
Within limit (p ∷ ps) = (p.nesting ≤ limit) × Within limit ps

-- where reading stopped: the tokens from there on, and whether the first of them nests too deep
pub record Stop : Type 0 where
  pub deep : Bool
  pub rest : List Token

-- the tokens, all of them, are a program of the grammar, of whatever nesting
pub record Spelled (text : Text) (p : Program) (placed : List Placed) : Type 0 where
  pub height : ℕ
  pub stands : program text height 0 placed p

-- The tokens of the text stand for the program, and nest no deeper than may be.
pub record StandFor (text : Text) (tokens : List Token) (p : Program) : Type 0 where
  pub placed : List Placed
  pub same : tokens ≡ tokens_of placed
  pub within : Within DEEPEST_NESTING placed
  pub spelled : Spelled text p placed

-- some program of the grammar, of whatever nesting, begins so
pub record Begins (text : Text) (front : List Placed) : Type 0 where
  pub more : List Placed
  pub p : Program
  pub spelled : Spelled text p (front ++ more)

-- the tokens are some program of the grammar, of whatever nesting
abbrev pub AreProgram : Text → List Token → Type 0
AreProgram text tokens = (p : Program) × (placed : List Placed) × (tokens_of placed ≡ tokens) × Spelled text p placed

-- the tokens begin one
abbrev pub BeginProgram : Text → List Token → Type 0
BeginProgram text tokens = (placed : List Placed) × (tokens_of placed ≡ tokens) × Begins text placed

-- no program goes on with the next token, or ends where there is none
abbrev pub CannotGoOn : Text → List Placed → List Token → Type 0
CannotGoOn text front [] = AreProgram text (tokens_of front) → ⊥
CannotGoOn text front (next ∷ rest) = BeginProgram text (tokens_of front ++ next ∷ []) → ⊥

-- The next token can stand there, one deeper than may be.
abbrev pub NestsBeyond : Text → List Placed → List Token → Type 0
NestsBeyond text front [] = ⊥
NestsBeyond text front (next ∷ rest) = Begins text (front ++ record { token = next; nesting = suc DEEPEST_NESTING } ∷ [])

abbrev pub FaultThere : Bool → Text → List Placed → List Token → Type 0
FaultThere false text front rest = CannotGoOn text front rest
FaultThere true text front rest = NestsBeyond text front rest

-- The first fault stands where the rest begins.
pub record StopFirst (text : Text) (tokens : List Token) (stop : Stop) : Type 0 where
  pub front : List Placed
  pub parts : tokens ≡ tokens_of front ++ stop.rest
  pub within : Within DEEPEST_NESTING front
  pub begins : Begins text front
  pub fault : FaultThere stop.deep text front stop.rest
