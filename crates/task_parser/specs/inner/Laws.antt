-- What it means that a reader reads a form exactly.
use Rattle.std.specs.Prelude.{◌≡◌, ℕ, suc, ◌+◌, Bool, true, false, cond, leb, List, [], ◌∷◌, ◌++◌, Result, Ok, Err}
use Rattle.task_parser.specs.declared.token.Token.{Token}
use Rattle.task_parser.specs.meaning.Words.{Placed, Form, tokens_of}
use Rattle.task_parser.specs.meaning.Promise.{Stop, Within}
use Rattle.task_parser.specs.inner.Reading.{Reader, begins}

-- both end, or both go on with the same token
abbrev pub Same : List Token → List Token → Type 0
Same [] [] = Unit {0}
Same [] (y ∷ ys) = ⊥
Same (x ∷ xs) [] = ⊥
Same (x ∷ xs) (y ∷ ys) = x ≡ y

-- where a reader stopped for its depth, the token there goes one beyond the limit
abbrev pub GoesBeyond : Bool → ℕ → List Token → List Placed → Type 0
GoesBeyond false limit rest more = Unit {0}
GoesBeyond true limit [] more = ⊥
GoesBeyond true limit (t ∷ ts) [] = ⊥
GoesBeyond true limit (t ∷ ts) (p ∷ ps) = (p.token ≡ t) × (p.nesting ≡ suc limit)

-- The tokens before the rest stand for the value, whatever other tokens come after the next.
pub record Took {A : Type 0} (limit depth : ℕ) (P : Form A) (read : Reader A) (ts : List Token) (value : A)
    (rest : List Token) : Type 0 where
  pub used : List Placed
  pub parts : ts ≡ tokens_of used ++ rest
  pub within : Within limit used
  pub stands : P depth used value
  pub again : (other : List Token) → Same rest other → read (tokens_of used ++ other) ≡ Ok (value, other)

-- The tokens before the stop can be gone on with, and not with the token at the stop.
pub record Halted {A : Type 0} (limit depth : ℕ) (P : Form A) (read : Reader A) (ts : List Token) (stop : Stop) : Type 0 where
  pub used : List Placed
  pub more : List Placed
  pub value : A
  pub parts : ts ≡ tokens_of used ++ stop.rest
  pub within : Within limit used
  pub stands : P depth (used ++ more) value
  pub beyond : GoesBeyond stop.deep limit stop.rest more
  pub again : (other : List Token) → Same stop.rest other → read (tokens_of used ++ other) ≡ Err (record { deep = stop.deep; rest = other })

abbrev pub Outcome : {A : Type 0} → ℕ → ℕ → Form A → Reader A → List Token → Result (A × List Token) Stop → Type 0
Outcome limit depth P read ts (Ok v) = Took limit depth P read ts v.0 v.1
Outcome limit depth P read ts (Err stop) = Halted limit depth P read ts stop

abbrev pub Sound : {A : Type 0} → ℕ → Form A → Reader A → Type 0
Sound room P read = (depth : ℕ) (ts : List Token) → Outcome (depth + room) depth P read ts (read ts)

-- what reading gives on tokens that stand for a value: the value, or the first token beyond the limit
abbrev pub verdict : {A : Type 0} → ℕ → List Placed → List Token → Result A Stop → Result A Stop
verdict limit [] rest ok = ok
verdict limit (p ∷ ps) rest ok =
    cond (leb p.nesting limit) (verdict limit ps rest ok) (Err (record { deep = true; rest = p.token ∷ (tokens_of ps ++ rest) }))

abbrev pub Complete : {A : Type 0} → ℕ → Form A → (Token → Bool) → Reader A → Type 0
Complete {A} room P goes read =
    (depth : ℕ) (used : List Placed) (value : A) (rest : List Token) → P depth used value → begins goes rest ≡ false
    → read (tokens_of used ++ rest) ≡ verdict (depth + room) used rest (Ok (value, rest))

-- each has a token that passes the test at its front
abbrev pub Starts : {A : Type 0} → (Token → Bool) → Form A → Type 0
Starts {A} first P = (depth : ℕ) (used : List Placed) (value : A) → P depth used value → begins first (tokens_of used) ≡ true

-- at each nesting there is one
abbrev pub Inhabited : {A : Type 0} → Form A → Type 0
Inhabited {A} P = (depth : ℕ) → (used : List Placed) × (value : A) × P depth used value

-- Where a P ends, a Q that follows can't be mistaken for more of the P.
abbrev pub Parted : {B : Type 0} → (Token → Bool) → Form B → (Token → Bool) → Type 0
Parted {B} goes Q after =
    (depth : ℕ) (used : List Placed) (value : B) (rest : List Token) → Q depth used value → begins after rest ≡ false
    → begins goes (tokens_of used ++ rest) ≡ false
