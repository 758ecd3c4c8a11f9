-- Reading from left to right, with one token of look-ahead.
use Rattle.std.specs.Prelude.{ℕ, zero, suc, Bool, true, false, cond, List, [], ◌∷◌, length, Option, Some, None, Result, Ok, Err}
use Rattle.task_parser.specs.declared.token.Token.{Token}
use Rattle.task_parser.specs.inner.Classes.{among}
use Rattle.task_parser.specs.meaning.Promise.{Stop}
use Rattle.task_parser.specs.meaning.Words.{put_first}

abbrev pub Reader : Type 0 → Type 0
Reader A = List Token → Result (A × List Token) Stop

infixl 10 ◌>>=◌
abbrev pub ◌>>=◌ : {A B : Type 0} → Result A Stop → (A → Result B Stop) → Result B Stop
(Ok x) >>= f = f x
(Err e) >>= f = Err e

abbrev pub begins : (Token → Bool) → List Token → Bool
begins test [] = false
begins test (t ∷ ts) = test t

abbrev pub unexpected : {A : Type 0} → List Token → Result A Stop
unexpected rest = Err (record { deep = false; rest = rest })

abbrev pub read_one : (Token → Bool) → Reader Token
read_one test [] = unexpected []
read_one test (t ∷ ts) = cond (test t) (Ok (t, ts)) (unexpected (t ∷ ts))

abbrev pub read_both : {A B : Type 0} → Reader A → Reader B → Reader (A × B)
read_both p q ts = p ts >>= λ x. q x.1 >>= λ y. Ok ((x.0, y.0), y.1)

abbrev pub read_made : {A B : Type 0} → (A → B) → Reader A → Reader B
read_made make p ts = p ts >>= λ x. Ok (make x.0, x.1)

abbrev pub read_either : {A : Type 0} → (Token → Bool) → Reader A → Reader A → Reader A
read_either first p q ts = cond (begins first ts) (p ts) (q ts)

abbrev pub given : {A : Type 0} → A → Option A
given x = Some x

abbrev pub read_many : {A : Type 0} → ℕ → (Token → Bool) → Reader A → Reader (List A)
read_many zero first p ts = Ok ([], ts)
read_many (suc n) first p ts = cond (begins first ts) (read_made put_first (read_both p (read_many n first p)) ts) (Ok ([], ts))

-- as many as there are
abbrev pub repeat : {A : Type 0} → (Token → Bool) → Reader A → Reader (List A)
repeat first p ts = read_many (length ts) first p ts

-- at most one
abbrev pub read_perhaps : {A : Type 0} → (Token → Bool) → Reader A → Reader (Option A)
read_perhaps first p ts = cond (begins first ts) (read_made given p ts) (Ok (None, ts))

infixl 10 ◌▹◌
abbrev pub ◌▹◌ : {A B : Type 0} → Reader A → Reader B → Reader (A × B)
p ▹ q = read_both p q

abbrev pub read_the : ℕ → Reader Token
read_the class = read_one (among (class ∷ []))

-- what is after a token of the class
abbrev pub read_past : ℕ → List Token → Result (List Token) Stop
read_past class ts = read_the class ts >>= λ x. Ok x.1

infixl 10 ◌◃◌
abbrev pub ◌◃◌ : {A : Type 0} → Reader A → ℕ → Reader A
(p ◃ class) ts = p ts >>= λ x. read_past class x.1 >>= λ rest. Ok (x.0, rest)

abbrev pub read_after : {A : Type 0} → ℕ → Reader A → Reader A
read_after class p ts = read_past class ts >>= p

abbrev pub read_some : {A : Type 0} → (Token → Bool) → Reader A → Reader (List A)
read_some first p = read_made put_first (p ▹ repeat first p)

abbrev pub read_separated : {A : Type 0} → ℕ → Reader A → Reader (List A)
read_separated class p = read_made put_first (p ▹ repeat (among (class ∷ [])) (read_after class p))

-- into a construct, unless there is no room for one more
abbrev pub enter : {A : Type 0} → Option (Reader A) → List Token → Reader A
enter None whole ts = Err (record { deep = true; rest = whole })
enter (Some p) whole ts = p ts

abbrev pub read_opened : {A : Type 0} → (Token → Bool) → Option (Reader A) → Reader A
read_opened test inner ts = read_one test ts >>= λ x. enter inner ts x.1
