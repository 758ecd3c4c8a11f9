-- Facts about placed tokens, verdicts and lists that go on alike.
use Rattle.std.proofs.Common.{◌≡◌, ℕ, Bool, true, false, cond, leb, List, [], ◌∷◌, ◌++◌, Result, Err, refl, sym, ap, append_assoc}
use Rattle.task_parser.specs.declared.token.Token.{Token}
use Rattle.task_parser.specs.meaning.Words.{Placed, tokens_of}
use Rattle.task_parser.specs.inner.Reading.{begins, ◌>>=◌}
use Rattle.task_parser.specs.meaning.Promise.{Stop}
use Rattle.task_parser.specs.inner.Laws.{Same, GoesBeyond, verdict}
use Rattle.task_parser.specs.meaning.Promise.{Within}

pub tokens-append : (a b : List Placed) → tokens_of (a ++ b) ≡ tokens_of a ++ tokens_of b
tokens-append [] b = refl
tokens-append (p ∷ a) b = ap (λ (ts : List Token). p.token ∷ ts) (tokens-append a b)

-- the tokens of two parts, and the rest
pub tokens_parts : (a b : List Placed) (rest : List Token) → tokens_of (a ++ b) ++ rest ≡ tokens_of a ++ (tokens_of b ++ rest)
tokens_parts a b rest = rw tokens-append (append_assoc (tokens_of a) (tokens_of b) rest)

pub Within-append : (limit : ℕ) (a b : List Placed) → Within limit a → Within limit b → Within limit (a ++ b)
Within-append limit [] b h k = k
Within-append limit (p ∷ a) b h k = (h.0, Within-append limit a b h.1 k)

pub same_refl : (ts : List Token) → Same ts ts
same_refl [] = tt
same_refl (t ∷ ts) = refl

pub same_after : (front a b : List Token) → Same a b → Same (front ++ a) (front ++ b)
same_after [] a b h = h
same_after (t ∷ front) a b h = refl

pub same_sym : (a b : List Token) → Same a b → Same b a
same_sym [] [] h = tt
same_sym [] (y ∷ b) h = absurd h
same_sym (x ∷ a) [] h = absurd h
same_sym (x ∷ a) (y ∷ b) h = sym h

pub begins_same : (test : Token → Bool) (a b : List Token) → Same a b → begins test b ≡ begins test a
begins_same test [] [] h = refl
begins_same test [] (y ∷ b) h = absurd h
begins_same test (x ∷ a) [] h = absurd h
begins_same test (x ∷ a) (y ∷ b) h = ap test (sym h)

pub verdict-bind : {A B : Type 0} (limit : ℕ) (used : List Placed) (rest : List Token) (r : Result A Stop) (f : A → Result B Stop)
    → (verdict limit used rest r >>= f) ≡ verdict limit used rest (r >>= f)
verdict-bind limit [] rest r f = refl
verdict-bind {A = A} {B = B} limit (p ∷ ps) rest r f =
    elim (leb p.nesting limit) as
    (λ b. (cond b (verdict limit ps rest r) (Err (record { deep = true; rest = p.token ∷ (tokens_of ps ++ rest) })) >>= f)
    ≡ cond b (verdict limit ps rest (r >>= f)) (Err (record { deep = true; rest = p.token ∷ (tokens_of ps ++ rest) }))) [
      | true ↦ verdict-bind limit ps rest r f
      | false ↦ refl
    ]

pub verdict-append : {A : Type 0} (limit : ℕ) (a b : List Placed) (rest : List Token) (r : Result A Stop)
    → verdict limit (a ++ b) rest r ≡ verdict limit a (tokens_of b ++ rest) (verdict limit b rest r)
verdict-append limit [] b rest r = refl
verdict-append limit (p ∷ a) b rest r = rw (verdict-append limit a b rest r, tokens_parts a b rest) refl

pub GoesBeyond-append : (deep : Bool) (limit : ℕ) (rest : List Token) (more c : List Placed) → GoesBeyond deep limit rest more
    → GoesBeyond deep limit rest (more ++ c)
GoesBeyond-append false limit rest more c h = tt
GoesBeyond-append true limit [] more c h = h
GoesBeyond-append true limit (t ∷ ts) [] c h = absurd h
GoesBeyond-append true limit (t ∷ ts) (p ∷ more) c h = h
