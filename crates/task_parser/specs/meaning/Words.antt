-- The words in which the grammar is written.
use Prim.Native.String.{String}
use Rattle.std.specs.Prelude.{◌≡◌, ℕ, suc, List, [], ◌∷◌, ◌++◌, length, Option, None, Some, ◌⊎◌, codes}
use Rattle.task_parser.specs.declared.token.Kind.{Kind}
use Rattle.task_parser.specs.declared.token.Token.{Token}
use Rattle.task_parser.specs.declared.lexer.Piece.TheVariants.{Take}
use Rattle.task_parser.specs.meaning.Pieces.{piece_of}

-- a token, and how many constructs that count as nesting are open there, one that it opens among them
pub record Placed : Type 0 where
  pub token : Token
  pub nesting : ℕ

-- A form of the grammar: at a nesting, the placed tokens that stand for a value.
abbrev pub Form : Type 0 → Type 1
Form A = ℕ → List Placed → A → Type 0

-- one token, which passes the test
pub record One (test : Token → Type 0) (depth : ℕ) (placed : List Placed) (token : Token) : Type 0 where
  pub passes : test token
  pub alone : placed ≡ record { token = token; nesting = depth } ∷ []

-- a P and then a Q
pub record Both {A B : Type 0} (P : Form A) (Q : Form B) (depth : ℕ) (placed : List Placed) (pair : A × B) : Type 0 where
  pub front : List Placed
  pub back : List Placed
  pub parts : placed ≡ front ++ back
  pub first : P depth front pair.0
  pub second : Q depth back pair.1

infixl 10 ◌▸◌
abbrev pub ◌▸◌ : {A B : Type 0} → Form A → Form B → Form (A × B)
P ▸ Q = Both P Q

-- a P, which stands for another value
pub record Made {A B : Type 0} (make : A → B) (P : Form A) (depth : ℕ) (placed : List Placed) (value : B) : Type 0 where
  pub from : A
  pub is : value ≡ make from
  pub stands : P depth placed from

-- a P or a Q
infixr 5 ◌∣◌
abbrev pub ◌∣◌ : {A : Type 0} → Form A → Form A → Form A
(P ∣ Q) depth placed value = P depth placed value ⊎ Q depth placed value

-- any number of P
abbrev pub many : {A : Type 0} → Form A → Form (List A)
many P depth placed [] = placed ≡ []
many P depth placed (x ∷ xs) =
    (front : List Placed) × (back : List Placed) × (placed ≡ front ++ back) × P depth front x × many P depth back xs

-- at most one P
abbrev pub perhaps : {A : Type 0} → Form A → Form (Option A)
perhaps P depth placed None = placed ≡ []
perhaps P depth placed (Some x) = P depth placed x

-- no tokens fit
abbrev pub nothing : {A : Type 0} → Form A
nothing depth placed value = ⊥

abbrev pub first_of : {A B : Type 0} → A × B → A
first_of x = x.0

abbrev pub second_of : {A B : Type 0} → A × B → B
second_of x = x.1

abbrev pub put_first : {A : Type 0} → A × List A → List A
put_first x = x.0 ∷ x.1

-- one token of the kind
abbrev pub of_kind : Kind → Form Token
of_kind kind = One (λ token. token.kind ≡ kind)

-- the text, as a whole, is a token of the same kind
abbrev pub IsWritten : String → Token → Type 0
IsWritten text token = piece_of (codes text) ≡ Take token.kind (length (codes text))

-- the reserved word or the mark that is written so
abbrev pub the : String → Form Token
the text = One (IsWritten text)

-- a word or a mark that opens a construct which counts as nesting, and the P in it
pub record Opened {A : Type 0} (text : String) (P : Form A) (depth : ℕ) (placed : List Placed) (value : A) : Type 0 where
  pub token : Token
  pub inner : List Placed
  pub opens : IsWritten text token
  pub parts : placed ≡ record { token = token; nesting = suc depth } ∷ inner
  pub stands : P (suc depth) inner value

-- a P and a word or a mark after it; the value is that of the P
infixl 10 ◌◂◌
abbrev pub ◌◂◌ : {A : Type 0} → Form A → String → Form A
P ◂ text = Made first_of (P ▸ the text)

-- a word or a mark and a P after it; the value is that of the P
abbrev pub preceded : {A : Type 0} → String → Form A → Form A
preceded text P = Made second_of (the text ▸ P)

-- one P or more
abbrev pub some : {A : Type 0} → Form A → Form (List A)
some P = Made put_first (P ▸ many P)

-- one P or more, with separators between them
abbrev pub separated : {A : Type 0} → String → Form A → Form (List A)
separated text P = Made put_first (P ▸ many (preceded text P))

abbrev pub tokens_of : List Placed → List Token
tokens_of [] = []
tokens_of (p ∷ ps) = p.token ∷ tokens_of ps
