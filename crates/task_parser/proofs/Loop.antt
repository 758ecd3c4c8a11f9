-- Reading items one after the other, as a loop does.
use Rattle.std.proofs.Common.{◌≡◌, ℕ, Bool, true, false, List, [], ◌∷◌, ◌++◌, Result, Ok, Err, refl, sym, ap, ◌∙◌, append_assoc, append-nil, map}
use Rattle.std.proofs.lemmas.List.{map-append}
use Rattle.task_parser.specs.declared.token.Token.{Token}
use Rattle.task_parser.specs.meaning.Words.{Form}
use Rattle.task_parser.specs.inner.Reading.{Reader, begins, ◌>>=◌, read_made, repeat}
use Rattle.task_parser.specs.meaning.Promise.{Stop}
use Rattle.task_parser.specs.inner.Classes.{among}
use Rattle.task_parser.proofs.Many.{Shortens, shortens_sound, repeat_more, repeat_none}
use Rattle.task_parser.proofs.Forms.{Reads}

-- what was read before, and what is still read
abbrev pub also : {A : Type 0} → List A → Result (List A × List Token) Stop → Result (List A × List Token) Stop
also front read = read >>= λ x. Ok (front ++ x.0, x.1)

pub shortens_reads : {A : Type 0} {room : ℕ} {T P : Form A} {p : Reader A} {first goes : List ℕ} → Reads room T P p first goes → Shortens p
shortens_reads {room = room} {T = T} {p = p} {first = first} h = shortens_sound room (among first) T p h.starts_tall h.sound

pub also_none : {A : Type 0} (read : Result (List A × List Token) Stop) → also [] read ≡ read
also_none (Ok x) = refl
also_none (Err e) = refl

regroup : {A : Type 0} (front : List A) (x : A) (read : Result (List A × List Token) Stop)
    → also front (read >>= λ y. Ok (x ∷ y.0, y.1)) ≡ also (front ++ x ∷ []) read
regroup {A = A} front x (Ok y) = ap (λ (l : List A). Ok (l, y.1)) (sym (append_assoc front (x ∷ []) y.0))
regroup front x (Err e) = refl

put : {A : Type 0} (x : A) (read : Result (List A × List Token) Stop)
    → read_made (λ (p : A × List A). p.0 ∷ p.1) (λ ts. read >>= λ y. Ok ((x, y.0), y.1)) [] ≡ (read >>= λ y. Ok (x ∷ y.0, y.1))
put x (Ok y) = refl
put x (Err e) = refl

pub goes_on : {A : Type 0} (first : Token → Bool) (p : Reader A) (front : List A) (ts : List Token) (x : A) (after : List Token)
    → Shortens p → begins first ts ≡ true → p ts ≡ Ok (x, after)
    → also front (repeat first p ts) ≡ also (front ++ x ∷ []) (repeat first p after)
goes_on first p front ts x after short e h =
    rw (repeat_more first p short ts e, h) (ap (also front) (put x (repeat first p after)) ∙ regroup front x (repeat first p after))

-- one more item is read, and put after those before it
pub pushed_item : {A : Type 0} (first : Token → Bool) (p : Reader A) (items : List A) (item : A) (ts after : List Token)
    (total : Result (List A × List Token) Stop) → Shortens p → begins first ts ≡ true → p ts ≡ Ok (item, after)
    → also items (repeat first p ts) ≡ total → also (items ++ item ∷ []) (repeat first p after) ≡ total
pushed_item first p items item ts after total short e h so_far = sym (goes_on first p items ts item after short e h) ∙ so_far

pub pushed : {X A : Type 0} (first : Token → Bool) (p : Reader A) (view : X → A) (items : List X) (item : X) (ts after : List Token)
    (total : Result (List A × List Token) Stop) → Shortens p → begins first ts ≡ true → p ts ≡ Ok (view item, after)
    → also (map view items) (repeat first p ts) ≡ total → also (map view (items ++ item ∷ [])) (repeat first p after) ≡ total
pushed first p view items item ts after total short e h so_far =
    rw (map-append view items (item ∷ [])) (pushed_item first p (map view items) (view item) ts after total short e h so_far)

pub done : {A : Type 0} (first : Token → Bool) (p : Reader A) (front : List A) (ts : List Token) → begins first ts ≡ false
    → also front (repeat first p ts) ≡ Ok (front, ts)
done first p front ts e = rw (repeat_none first p ts e) (search append-nil)
