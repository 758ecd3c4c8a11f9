-- Any number of a form is read exactly where the form is.
use Rattle.std.proofs.Common.{◌≡◌, ℕ, zero, suc, ◌+◌, ◌≤◌, ◌<◌, Bool, true, false, cond, List, [], ◌∷◌, ◌++◌, length, Result, Ok, Err, refl, sym, ap, subst, ◌∙◌, arith}
use Rattle.std.proofs.lemmas.List.{length-append}
use Rattle.task_parser.specs.declared.token.Token.{Token}
use Rattle.task_parser.specs.meaning.Words.{Placed, Form, Both, Made, many, put_first, tokens_of}
use Rattle.task_parser.specs.inner.Reading.{Reader, begins, ◌>>=◌, read_both, read_made, read_many, repeat}
use Rattle.task_parser.specs.meaning.Promise.{Stop}
use Rattle.task_parser.specs.inner.Laws.{Took, Outcome, Sound, verdict, Complete, Starts, Inhabited, Parted}
use Rattle.task_parser.proofs.Basics.{tokens_parts, begins_same, verdict-bind, verdict-append}
use Rattle.task_parser.proofs.Exact.{both_first, made_any, outcome_as, Covers, Apart, begins_narrow, begins_apart, begins_longer}

took_shorter : {A : Type 0} (limit depth : ℕ) (first : Token → Bool) (P : Form A) (p : Reader A) (ts : List Token) (x : A)
    (rest : List Token) → Starts first P → Took limit depth P p ts x rest → length rest < length ts
took_shorter limit depth first P p ts x rest starts h = rw h.parts (longer (tokens_of h.used) (starts depth h.used x h.stands))
  where
    longer : (front : List Token) → begins first front ≡ true → length rest < length (front ++ rest)
    longer [] e = absurd cc
    longer (t ∷ front) e = omega (arith, length-append front rest)

-- what a successful read leaves is shorter
abbrev pub Shortens : {A : Type 0} → Reader A → Type 0
Shortens {A} p = (ts : List Token) (x : A) (rest : List Token) → p ts ≡ Ok (x, rest) → length rest < length ts

pub shortens_sound : {A : Type 0} (room : ℕ) (first : Token → Bool) (P : Form A) (p : Reader A) → Starts first P → Sound room P p
    → Shortens p
shortens_sound {A = A} room first P p starts sound ts x rest e =
    took_shorter (0 + room) 0 first P p ts x rest starts
    (subst (λ (r : Result (A × List Token) Stop). Outcome (0 + room) 0 P p ts r) e (sound 0 ts))

many_fuel : {A : Type 0} (first : Token → Bool) (p : Reader A) → Shortens p → (n m : ℕ) (ts : List Token) → length ts ≤ n → length ts ≤ m
    → read_many n first p ts ≡ read_many m first p ts
many_fuel first p short zero zero ts h k = refl
many_fuel first p short zero (suc m) [] h k = refl
many_fuel first p short zero (suc m) (t ∷ ts) h k = absurd (omega arith)
many_fuel first p short (suc n) zero [] h k = refl
many_fuel first p short (suc n) zero (t ∷ ts) h k = absurd (omega arith)
many_fuel {A = A} first p short (suc n) (suc m) ts h k =
    ap (λ (r : Result (List A × List Token) Stop). cond (begins first ts) r (Ok ([], ts)))
    (go (p ts) refl (λ rest lt. many_fuel first p short n m rest (omega arith) (omega arith)))
  where
    go : (r : Result (A × List Token) Stop) → p ts ≡ r
        → ((rest : List Token) → length rest < length ts → read_many n first p rest ≡ read_many m first p rest)
        → read_made put_first (λ us. r >>= λ x. read_many n first p x.1 >>= λ xs. Ok ((x.0, xs.0), xs.1)) ts
        ≡ read_made put_first (λ us. r >>= λ x. read_many m first p x.1 >>= λ xs. Ok ((x.0, xs.0), xs.1)) ts
    go (Ok (x, rest)) e same = rw (same rest (short ts x rest e)) refl
    go (Err stop) e same = refl

-- one, and as many as there are after it
abbrev pub one_more : {A : Type 0} → (Token → Bool) → Reader A → Reader (List A)
one_more first p = read_made put_first (read_both p (repeat first p))

pub repeat_more : {A : Type 0} (first : Token → Bool) (p : Reader A) → Shortens p → (ts : List Token) → begins first ts ≡ true
    → repeat first p ts ≡ one_more first p ts
repeat_more first p short [] e = absurd cc
repeat_more {A = A} first p short (t ∷ ts) e = rw e (go (p (t ∷ ts)) refl)
  where
    go : (r : Result (A × List Token) Stop) → p (t ∷ ts) ≡ r
        → read_made put_first (λ us. r >>= λ x. read_many (length ts) first p x.1 >>= λ xs. Ok ((x.0, xs.0), xs.1)) ts
        ≡ read_made put_first (λ us. r >>= λ x. repeat first p x.1 >>= λ xs. Ok ((x.0, xs.0), xs.1)) ts
    go (Ok (x, rest)) e =
        let lt : length rest < suc (length ts) = short (t ∷ ts) x rest e in
        rw (many_fuel first p short (length ts) (length rest) rest (omega arith) (omega arith)) refl
    go (Err stop) e = refl

pub repeat_none : {A : Type 0} (first : Token → Bool) (p : Reader A) (ts : List Token) → begins first ts ≡ false
    → repeat first p ts ≡ Ok ([], ts)
repeat_none first p [] e = refl
repeat_none first p (t ∷ ts) e = rw e refl

-- a P and more of them are many
many_put : {A : Type 0} (P : Form A) (depth : ℕ) (placed : List Placed) (xs : List A) → Made put_first (Both P (many P)) depth placed xs
    → many P depth placed xs
many_put {A = A} P depth placed xs h =
    subst (λ (l : List A). many P depth placed l) (sym h.is)
    (h.stands.front, h.stands.back, h.stands.parts, h.stands.first, h.stands.second)

many_sound : {A : Type 0} (limit depth : ℕ) (first : Token → Bool) (P : Form A) (p : Reader A) → Starts first P → Shortens p
    → ((ts : List Token) → Outcome limit depth P p ts (p ts)) → (n : ℕ) (ts : List Token) → length ts ≤ n
    → Outcome limit depth (many P) (repeat first p) ts (repeat first p ts)
many_sound {A = A} limit depth first P p starts short sound n ts h = go n ts h (begins first ts) refl
  where
    none : (ts : List Token) → begins first ts ≡ false → Outcome limit depth (many P) (repeat first p) ts (Ok ([], ts))
    none ts e =
        record {
          used = [];
          parts = refl;
          within = tt;
          stands = refl;
          again = λ other same. repeat_none first p other (begins_same first ts other same ∙ e);
        }

    more : (ts : List Token) → begins first ts ≡ true
        → ((rest : List Token) → length rest < length ts → Outcome limit depth (many P) (repeat first p) rest (repeat first p rest))
        → Outcome limit depth (many P) (repeat first p) ts (one_more first p ts)
    more ts e next =
        outcome_as limit depth (Made put_first (Both P (many P))) (many P) (one_more first p) (repeat first p) ts
        (λ placed value h. many_put P depth placed value h)
        (λ other same. repeat_more first p short other (begins_same first ts other same ∙ e)) (one_more first p ts)
        (made_any limit depth put_first (Both P (many P)) (read_both p (repeat first p)) ts (read_both p (repeat first p) ts)
        (both_first limit depth P (many P) p (repeat first p) ts
        (λ x rest h. next rest (took_shorter limit depth first P p ts x rest starts h)) (λ d. ([], [], refl)) (p ts) (sound ts)))

    go : (n : ℕ) (ts : List Token) → length ts ≤ n → (b : Bool) → begins first ts ≡ b
        → Outcome limit depth (many P) (repeat first p) ts (repeat first p ts)
    go n ts h false e = rw (repeat_none first p ts e) (none ts e)
    go zero [] h true e = absurd cc
    go zero (t ∷ ts) h true e = absurd (omega arith)
    go (suc n) ts h true e = rw (repeat_more first p short ts e) (more ts e (λ rest lt. go n rest (omega arith) (begins first rest) refl))

pub sound_many : {A : Type 0} (room : ℕ) (first : Token → Bool) (P : Form A) (p : Reader A) → Starts first P → Sound room P p
    → Sound room (many P) (repeat first p)
sound_many room first P p starts sound depth ts =
    many_sound (depth + room) depth first P p starts (shortens_sound room first P p starts sound) (λ us. sound depth us)
    (length ts) ts (omega arith)

pub parted_many : {A : Type 0} (first goes after : Token → Bool) (P : Form A) → Starts first P → Apart first goes → Covers goes after
    → Parted goes (many P) after
parted_many first goes after P starts apart covers depth used [] rest h end = rw h (begins_narrow goes after rest covers end)
parted_many first goes after P starts apart covers depth used (x ∷ xs) rest h end =
    rw (h.2, tokens_parts h.0 h.1 rest) (begins_apart first goes (tokens_of h.0) (tokens_of h.1 ++ rest) apart (starts depth h.0 x h.3))

pub complete_many : {A : Type 0} (room : ℕ) (first goes after : Token → Bool) (P : Form A) (p : Reader A) → Starts first P → Shortens p
    → Complete room P goes p → Apart first goes → Covers goes after → Covers first after → Complete room (many P) after (repeat first p)
complete_many room first goes after P p starts short cp apart covers stops depth used [] rest h end =
    rw h (repeat_none first p rest (begins_narrow first after rest stops end))
complete_many {A = A} room first goes after P p starts short cp apart covers stops depth used (x ∷ xs) rest h end =
    rw (
      h.2,
      tokens_parts h.0 h.1 rest,
      repeat_more first p short (tokens_of h.0 ++ (tokens_of h.1 ++ rest))
          (begins_longer first (tokens_of h.0) (tokens_of h.1 ++ rest) (starts depth h.0 x h.3)),
      cp depth h.0 x (tokens_of h.1 ++ rest) h.3 (parted_many first goes after P starts apart covers depth h.1 xs rest h.4 end),
      verdict-bind {A = A × List Token} {B = (A × List A) × List Token} (depth + room) h.0 (tokens_of h.1 ++ rest)
          (Ok (x, tokens_of h.1 ++ rest)) (λ x. repeat first p x.1 >>= λ y. Ok ((x.0, y.0), y.1)),
      complete_many room first goes after P p starts short cp apart covers stops depth h.1 xs rest h.4 end,
      verdict-bind {A = List A × List Token} {B = (A × List A) × List Token} (depth + room) h.1 rest (Ok (xs, rest))
          (λ y. Ok ((x, y.0), y.1)),
      verdict-bind {A = (A × List A) × List Token} {B = List A × List Token} (depth + room) h.0 (tokens_of h.1 ++ rest)
          (verdict (depth + room) h.1 rest (Ok ((x, xs), rest))) (λ pair. Ok (put_first pair.0, pair.1)),
      verdict-bind {A = (A × List A) × List Token} {B = List A × List Token} (depth + room) h.1 rest (Ok ((x, xs), rest))
          (λ pair. Ok (put_first pair.0, pair.1)),
    )
    (sym (verdict-append (depth + room) h.0 h.1 rest (Ok (x ∷ xs, rest))))

pub inhabited_many : {A : Type 0} (P : Form A) → Inhabited (many P)
inhabited_many P depth = ([], [], refl)
