-- One fact for each form: how it is read. Each word of the grammar has one lemma. The sets of tokens with which a form
-- begins, and with which it could go on, are lists of kinds here, so that what the laws of Exact ask of them (apart,
-- within) is computed.
use Prim.Native.String.{String}
use Rattle.std.proofs.Common.{◌≡◌, ℕ, zero, suc, ◌+◌, true, List, [], ◌∷◌, ◌++◌, Result, Ok, Err, Option, Some, None, option_map, nat_eq, refl, sym, ap, ◌∙◌, ◌⊎◌, inl, inr, arith}
use Rattle.std.proofs.Math.Bool.{or-true}
use Rattle.std.proofs.lemmas.Bool.{eq-eqb}
use Rattle.task_ast.specs.declared.tree.Op.{Op}
use Rattle.task_parser.specs.declared.classes.TheConstants.{NUM, NAME, REG}
use Rattle.task_parser.specs.declared.token.Kind.{Kind}
use Rattle.task_parser.specs.declared.token.Kind.TheVariants.{Num, Name, Reg, Quoted, Word, Mark}
use Rattle.task_parser.specs.declared.token.Token.{Token}
use Rattle.task_parser.specs.meaning.Words.{Placed, Form, tokens_of, One, Both, Made, ◌∣◌, many, perhaps, Opened, nothing, first_of, second_of, put_first, of_kind, IsWritten, the, ◌◂◌, preceded, some, separated}
use Rattle.task_parser.specs.meaning.Expressions.{Text, name_of, reg_name, name, register, number, operator}
use Rattle.task_parser.specs.inner.ExpressionReaders.{number_in, number_of, read_name, read_register, read_number, read_operator}
use Rattle.task_parser.specs.inner.Reading.{Reader, read_one, read_both, read_made, read_either, repeat, read_perhaps, read_opened, read_the, ◌◃◌, read_after, read_some, read_separated}
use Rattle.task_parser.specs.meaning.Promise.{Stop}
use Rattle.task_parser.specs.inner.Laws.{Sound, Complete, Starts, Inhabited, Parted}
use Rattle.task_parser.proofs.Exact.{Passes, OpenedBy, Covers, outcome_as, sound_one, sound_both, sound_made, sound_either, sound_opened, sound_opened_none, complete_one, complete_both, complete_made, complete_either, complete_opened, complete_opened_none, complete_wider, starts_one, starts_both, starts_made, starts_either, starts_opened, starts_wider, inhabited_one, inhabited_both, inhabited_made, inhabited_left, inhabited_opened, parted_starts, parted_made}
use Rattle.task_parser.specs.inner.Classes.{class, holds, among, operator_in, op_of}
use Rattle.task_parser.proofs.ClassLists.{disjoint, subset, apart, covers, holds_cases, of_class, usual, kind_of, token_of, token_among, Alike, alike_kind, IsOf, alike_written}
use Rattle.task_parser.proofs.Perhaps.{sound_perhaps, complete_perhaps, parted_perhaps, inhabited_perhaps}
use Rattle.task_parser.proofs.Many.{shortens_sound, sound_many, complete_many, parted_many, inhabited_many}

-- A form that begins with a token of the first test, and that tokens of the other test could go on with.
-- Tall is the form at a height that has room for what the reader completes, Any at every height.
pub record Reads {A : Type 0} (room : ℕ) (Tall Any : Form A) (read : Reader A) (first goes : List ℕ) : Type 0 where
  pub starts : Starts (among first) Any
  pub starts_tall : Starts (among first) Tall
  pub inhabited : Inhabited Tall
  pub sound : Sound room Tall read
  pub complete : Complete room Any (among goes) read

-- The same of a form that may have no token.
pub record MayRead {A : Type 0} (room : ℕ) (Tall Any : Form A) (read : Reader A) (first goes : List ℕ) : Type 0 where
  pub inhabited : Inhabited Tall
  pub sound : Sound room Tall read
  pub complete : (after : List ℕ) → subset goes after ≡ true → subset first after ≡ true → Complete room Any (among after) read
  pub parted : (before after : List ℕ) → disjoint first before ≡ true → subset before after ≡ true → Parted (among before) Any (among after)

pub reads_one : {room : ℕ} (n : ℕ) (ns : List ℕ)
    → Reads room (One (Passes (among (n ∷ ns)))) (One (Passes (among (n ∷ ns)))) (read_one (among (n ∷ ns))) (n ∷ ns) []
reads_one {room = room} n ns = record {
  starts = starts_one (among (n ∷ ns));
  starts_tall = starts_one (among (n ∷ ns));
  inhabited = inhabited_one (among (n ∷ ns)) (token_of n) (token_among n ns);
  sound = sound_one room (among (n ∷ ns)) (token_of n) (token_among n ns);
  complete = complete_one room (among (n ∷ ns)) (among []);
}

pub reads_made : {A B : Type 0} {room : ℕ} {T P : Form A} {p : Reader A} {first goes : List ℕ} (make : A → B) → Reads room T P p first goes
    → Reads room (Made make T) (Made make P) (read_made make p) first goes
reads_made {room = room} {T = T} {P = P} {p = p} {first = first} {goes = goes} make h = record {
  starts = starts_made (among first) make P h.starts;
  starts_tall = starts_made (among first) make T h.starts_tall;
  inhabited = inhabited_made make T h.inhabited;
  sound = sound_made room make T p h.sound;
  complete = complete_made room make P (among goes) p h.complete;
}

pub may_read_made : {A B : Type 0} {room : ℕ} {T P : Form A} {p : Reader A} {first goes : List ℕ} (make : A → B)
    → MayRead room T P p first goes → MayRead room (Made make T) (Made make P) (read_made make p) first goes
may_read_made {room = room} {T = T} {P = P} {p = p} {first = first} {goes = goes} make h = record {
  inhabited = inhabited_made make T h.inhabited;
  sound = sound_made room make T p h.sound;
  complete = λ after c s. complete_made room make P (among after) p (h.complete after c s);
  parted = λ before after a c. parted_made make (among before) (among after) P (h.parted before after a c);
}

-- ---- the same form in other words

abbrev pub Implies : {A : Type 0} → Form A → Form A → Type 0
Implies {A} P Q = (depth : ℕ) (placed : List Placed) (value : A) → P depth placed value → Q depth placed value

pub reads_as : {A : Type 0} {room : ℕ} {T P U Q : Form A} {p : Reader A} {first goes : List ℕ} → Implies T U → Implies U T → Implies Q P
    → Reads room T P p first goes → Reads room U Q p first goes
reads_as {room = room} {T = T} {U = U} {p = p} to from any h = record {
  starts = λ depth used value s. h.starts depth used value (any depth used value s);
  starts_tall = λ depth used value s. h.starts_tall depth used value (from depth used value s);
  inhabited = λ depth. let a = h.inhabited depth in (a.0, a.1, to depth a.0 a.1 a.2);
  sound = λ depth ts.
      outcome_as (depth + room) depth T U p p ts (λ placed value s. to depth placed value s) (λ other same. refl) (p ts) (h.sound depth ts);
  complete = λ depth used value rest s end. h.complete depth used value rest (any depth used value s) end;
}

one_to : {test : Token → Type 0} {classes : List ℕ} → Alike test classes → Implies (One test) (One (Passes (among classes)))
one_to alike depth placed token s = record { passes = alike.to token s.passes; alone = s.alone }

one_from : {test : Token → Type 0} {classes : List ℕ} → Alike test classes → Implies (One (Passes (among classes))) (One test)
one_from alike depth placed token s = record { passes = alike.from token s.passes; alone = s.alone }

reads_alike : {room n : ℕ} {test : Token → Type 0} → Alike test (n ∷ []) → Reads room (One test) (One test) (read_the n) (n ∷ []) []
reads_alike {n = n} alike = reads_as (one_from alike) (one_to alike) (one_to alike) (reads_one n [])

-- a word or a mark, by how it is written and by its class
pub reads_the : {room : ℕ} (text : String) (n : ℕ) → IsOf text n → Reads room (the text) (the text) (read_the n) (n ∷ []) []
reads_the text n is = reads_alike (alike_written text n is)

pub reads_kind : {room : ℕ} (n : ℕ) → usual n ≡ true → Reads room (of_kind (kind_of n)) (of_kind (kind_of n)) (read_the n) (n ∷ []) []
reads_kind n is = reads_alike (alike_kind n is)

pub reads_name : {room : ℕ} (text : Text) → Reads room (name text) (name text) (read_name text) (NAME ∷ []) []
reads_name text = reads_made (name_of text) (reads_kind NAME refl)

pub reads_register : {room : ℕ} (text : Text) → Reads room (register text) (register text) (read_register text) (REG ∷ []) []
reads_register text = reads_made (reg_name text) (reads_kind REG refl)

-- a number is its value
number_to : Implies number (Made number_of (One (Passes (among (NUM ∷ [])))))
number_to depth placed n s = record {
  from = s.0;
  is = sym (ap number_in s.1.passes);
  stands = record { passes = rw s.1.passes refl; alone = s.1.alone };
}

number_from : Implies (Made number_of (One (Passes (among (NUM ∷ []))))) number
number_from depth placed n s =
    (s.from, record { passes = number_kind s.from.kind (of_class NUM s.from s.stands.passes) ∙ ap Num (sym s.is); alone = s.stands.alone })
  where
    number_kind : (kind : Kind) → class kind ≡ NUM → kind ≡ Num (number_in kind)
    number_kind (Num n) e = refl
    number_kind Name e = absurd cc
    number_kind Reg e = absurd cc
    number_kind Quoted e = absurd cc
    number_kind (Word w) e = absurd (omega (arith, e))
    number_kind (Mark m) e = absurd (omega (arith, e))

pub reads_number : {room : ℕ} → Reads room number number read_number (NUM ∷ []) []
reads_number = reads_as number_from number_to number_to (reads_made number_of (reads_one NUM []))

-- one and then another
pub reads_both : {A B : Type 0} {room : ℕ} {T P : Form A} {U Q : Form B} {p : Reader A} {q : Reader B} {first goes second after : List ℕ}
    → Reads room T P p first goes → Reads room U Q q second after → disjoint second goes ≡ true
    → Reads room (Both T U) (Both P Q) (read_both p q) first after
reads_both {room = room} {T = T} {P = P} {U = U} {Q = Q} {p = p} {q = q} {first = first} {goes = goes}
    {second = second} {after = after} h k d =
    record {
      starts = starts_both (among first) P Q h.starts;
      starts_tall = starts_both (among first) T U h.starts_tall;
      inhabited = inhabited_both T U h.inhabited k.inhabited;
      sound = sound_both room T U p q h.sound k.sound k.inhabited;
      complete =
          complete_both room P Q (among goes) (among after) p q h.complete k.complete
          (parted_starts (among second) (among goes) (among after) Q k.starts (apart second goes d));
    }

-- one, and then what may have no token
pub reads_more : {A B : Type 0} {room : ℕ} {T P : Form A} {U Q : Form B} {p : Reader A} {q : Reader B} {first goes second further : List ℕ}
    (after : List ℕ) → Reads room T P p first goes → MayRead room U Q q second further → disjoint second goes ≡ true
    → subset goes after ≡ true → subset second after ≡ true → subset further after ≡ true
    → Reads room (Both T U) (Both P Q) (read_both p q) first after
reads_more {room = room} {T = T} {P = P} {U = U} {Q = Q} {p = p} {q = q} {first = first} {goes = goes} after h k d g s f = record {
  starts = starts_both (among first) P Q h.starts;
  starts_tall = starts_both (among first) T U h.starts_tall;
  inhabited = inhabited_both T U h.inhabited k.inhabited;
  sound = sound_both room T U p q h.sound k.sound k.inhabited;
  complete = complete_both room P Q (among goes) (among after) p q h.complete (k.complete after f s) (k.parted goes after d g);
}

pub reads_many : {A : Type 0} {room : ℕ} {T P : Form A} {p : Reader A} {first goes : List ℕ} → Reads room T P p first goes
    → disjoint first goes ≡ true → MayRead room (many T) (many P) (repeat (among first) p) first goes
reads_many {room = room} {T = T} {P = P} {p = p} {first = first} {goes = goes} h d = record {
  inhabited = inhabited_many T;
  sound = sound_many room (among first) T p h.starts_tall h.sound;
  complete =
      λ after c s. complete_many room (among first) (among goes) (among after) P p h.starts
      (shortens_sound room (among first) T p h.starts_tall h.sound) h.complete (apart first goes d)
      (covers goes after c) (covers first after s);
  parted =
      λ before after a c. parted_many (among first) (among before) (among after) P h.starts (apart first before a) (covers before after c);
}

pub reads_perhaps : {A : Type 0} {room : ℕ} {T P : Form A} {p : Reader A} {first goes : List ℕ} → Reads room T P p first goes
    → MayRead room (perhaps T) (perhaps P) (read_perhaps (among first) p) first goes
reads_perhaps {room = room} {T = T} {P = P} {p = p} {first = first} {goes = goes} h = record {
  inhabited = inhabited_perhaps T;
  sound = sound_perhaps room (among first) T p h.sound;
  complete =
      λ after c s. complete_perhaps room (among first) (among goes) (among after) P p h.starts h.complete
      (covers goes after c) (covers first after s);
  parted =
      λ before after a c. parted_perhaps (among first) (among before) (among after) P h.starts (apart first before a)
      (covers before after c);
}

-- a mark that leaves none after it, or before it
-- the same of a reader that gives the same
reads_same : {A : Type 0} {room : ℕ} {T P : Form A} {p q : Reader A} {first goes : List ℕ} → ((ts : List Token) → q ts ≡ p ts)
    → Reads room T P p first goes → Reads room T P q first goes
reads_same {room = room} {T = T} {p = p} {q = q} same h = record {
  starts = h.starts;
  starts_tall = h.starts_tall;
  inhabited = h.inhabited;
  sound =
      λ depth ts. rw (same ts)
      (outcome_as (depth + room) depth T T p q ts (λ placed value k. k) (λ other alike. same other) (p ts) (h.sound depth ts));
  complete = λ depth used value rest k end. rw (same (tokens_of used ++ rest)) (h.complete depth used value rest k end);
}

mark_read : {A : Type 0} (p : Reader A) (n : ℕ) (ts : List Token) (x : A × List Token) (marked : Result (Token × List Token) Stop)
    → p ts ≡ Ok x → read_the n x.1 ≡ marked → (p ◃ n) ts ≡ read_made first_of (read_both p (read_the n)) ts
mark_read p n ts x (Ok y) h k = rw (h, k) refl
mark_read p n ts x (Err e) h k = rw (h, k) refl

mark_same : {A : Type 0} (p : Reader A) (n : ℕ) (ts : List Token) → (p ◃ n) ts ≡ read_made first_of (read_both p (read_the n)) ts
mark_same {A = A} p n ts = go (p ts) refl
  where
    go : (read : Result (A × List Token) Stop) → p ts ≡ read → (p ◃ n) ts ≡ read_made first_of (read_both p (read_the n)) ts
    go (Ok x) h = mark_read p n ts x (read_the n x.1) h refl
    go (Err e) h = rw h refl

after_read : {A : Type 0} (n : ℕ) (p : Reader A) (ts : List Token) (x : Token × List Token) (last : Result (A × List Token) Stop)
    → read_the n ts ≡ Ok x → p x.1 ≡ last → read_after n p ts ≡ read_made second_of (read_both (read_the n) p) ts
after_read n p ts x (Ok y) h k = rw (h, k) refl
after_read n p ts x (Err e) h k = rw (h, k) refl

after_same : {A : Type 0} (n : ℕ) (p : Reader A) (ts : List Token) → read_after n p ts ≡ read_made second_of (read_both (read_the n) p) ts
after_same n p ts = go (read_the n ts) refl
  where
    go : (read : Result (Token × List Token) Stop) → read_the n ts ≡ read
        → read_after n p ts ≡ read_made second_of (read_both (read_the n) p) ts
    go (Ok x) h = after_read n p ts x (p x.1) h refl
    go (Err e) h = rw h refl

pub reads_mark : {A : Type 0} {room : ℕ} {T P : Form A} {p : Reader A} {first goes : List ℕ} (text : String) (n : ℕ)
    → IsOf text n → disjoint (n ∷ []) goes ≡ true → Reads room T P p first goes → Reads room (T ◂ text) (P ◂ text) (p ◃ n) first []
reads_mark {p = p} text n is d h = reads_same (mark_same p n) (reads_made first_of (reads_both h (reads_the text n is) d))

pub reads_after : {A : Type 0} {room : ℕ} {T P : Form A} {p : Reader A} {first goes : List ℕ} (text : String) (n : ℕ)
    → IsOf text n → disjoint first [] ≡ true → Reads room T P p first goes
    → Reads room (preceded text T) (preceded text P) (read_after n p) (n ∷ []) goes
reads_after {p = p} text n is d h = reads_same (after_same n p) (reads_made second_of (reads_both (reads_the text n is) h d))

-- one or more
pub reads_some : {A : Type 0} {room : ℕ} {T P : Form A} {p : Reader A} {first goes : List ℕ} (further : List ℕ) → disjoint first goes ≡ true
    → subset goes further ≡ true → subset first further ≡ true → Reads room T P p first goes
    → Reads room (some T) (some P) (read_some (among first) p) first further
reads_some further d g f h = reads_made put_first (reads_more further h (reads_many h d) d g f g)

-- with separators between them
pub reads_separated : {A : Type 0} {room : ℕ} {T P : Form A} {p : Reader A} {first goes : List ℕ} (text : String) (n : ℕ) (further : List ℕ)
    → IsOf text n → disjoint first [] ≡ true → disjoint (n ∷ []) goes ≡ true → subset goes further ≡ true → subset (n ∷ []) further ≡ true
    → Reads room T P p first goes → Reads room (separated text T) (separated text P) (read_separated n p) first further
reads_separated text n further is e d g f h = reads_made put_first (reads_more further h (reads_many (reads_after text n is e h) d) d g f g)

pub reads_either : {A : Type 0} {room : ℕ} {T P U Q : Form A} {p q : Reader A} {first second goes : List ℕ} (start : List ℕ)
    → Reads room T P p first goes → Reads room U Q q second goes → disjoint second first ≡ true → subset first start ≡ true
    → subset second start ≡ true → Reads room (T ∣ U) (P ∣ Q) (read_either (among first) p q) start goes
reads_either {room = room} {T = T} {P = P} {U = U} {Q = Q} {p = p} {q = q} {first = first} {second = second} {goes = goes} start h k d l r =
    record {
      starts =
          starts_either (among start) P Q (starts_wider (among first) (among start) P (covers first start l) h.starts)
          (starts_wider (among second) (among start) Q (covers second start r) k.starts);
      starts_tall =
          starts_either (among start) T U (starts_wider (among first) (among start) T (covers first start l) h.starts_tall)
          (starts_wider (among second) (among start) U (covers second start r) k.starts_tall);
      inhabited = inhabited_left T U h.inhabited;
      sound = sound_either room (among first) T U p q h.sound k.sound;
      complete =
          complete_either room (among first) (among goes) P Q p q h.complete k.complete h.starts
          (parted_starts (among second) (among first) (among goes) Q k.starts (apart second first d));
    }

-- ---- operators

-- the operators of these classes
pub record Operators (P : Form Op) (classes : List ℕ) : Type 0 where
  pub to : Implies P (Made op_of (One (Passes (among classes))))
  pub from : Implies (Made op_of (One (Passes (among classes)))) P

pub reads_operators : {room n : ℕ} {ns : List ℕ} {P : Form Op} → Operators P (n ∷ ns) → Reads room P P (read_operator (n ∷ ns)) (n ∷ ns) []
reads_operators {n = n} {ns = ns} h = reads_as h.from h.to h.to (reads_made op_of (reads_one n ns))

pub operator_alone : (text : String) (op : Op) (n : ℕ) → IsOf text n → operator_in n ≡ op → Operators (operator text op) (n ∷ [])
operator_alone text op n is e = record {
  to = λ depth placed value s.
      record { from = s.from; is = s.is ∙ sym (op_is s.from (alike.to s.from s.stands.passes)); stands = one_to alike depth placed s.from s.stands };
  from = λ depth placed value s.
      record { from = s.from; is = s.is ∙ op_is s.from s.stands.passes; stands = one_from alike depth placed s.from s.stands };
}
  where
    alike : Alike (IsWritten text) (n ∷ [])
    alike = alike_written text n is

    op_is : (t : Token) → among (n ∷ []) t ≡ true → op_of t ≡ op
    op_is t h = ap operator_in (of_class n t h) ∙ e

pub operator_or : {Q : Form Op} {ns : List ℕ} (text : String) (op : Op) (n : ℕ) → IsOf text n → operator_in n ≡ op → Operators Q ns
    → Operators (operator text op ∣ Q) (n ∷ ns)
operator_or {Q = Q} {ns = ns} text op n is e others = record { to = to; from = from }
  where
    alone : Operators (operator text op) (n ∷ [])
    alone = operator_alone text op n is e

    wider : (before : List ℕ) → Covers (among before) (among (n ∷ ns)) → Implies (Made op_of (One (Passes (among before))))
        (Made op_of (One (Passes (among (n ∷ ns)))))
    wider before more depth placed value s =
        record { from = s.from; is = s.is; stands = record { passes = more s.from s.stands.passes; alone = s.stands.alone } }

    first : Covers (among (n ∷ [])) (among (n ∷ ns))
    first t h = rw (of_class n t h, eq-eqb n n refl) refl

    further : Covers (among ns) (among (n ∷ ns))
    further t h = rw h (or-true (nat_eq (class t.kind) n))

    to : Implies (operator text op ∣ Q) (Made op_of (One (Passes (among (n ∷ ns)))))
    to depth placed value (inl s) = wider (n ∷ []) first depth placed value (alone.to depth placed value s)
    to depth placed value (inr s) = wider ns further depth placed value (others.to depth placed value s)

    from : Implies (Made op_of (One (Passes (among (n ∷ ns))))) (operator text op ∣ Q)
    from depth placed value s = go (holds_cases (class s.from.kind) n ns s.stands.passes)
      where
        go : (class s.from.kind ≡ n) ⊎ (holds (class s.from.kind) ns ≡ true) → (operator text op ∣ Q) depth placed value
        go (inl k) =
            inl (alone.from depth placed value
            (record { from = s.from; is = s.is; stands = record { passes = rw (k, eq-eqb n n refl) refl; alone = s.stands.alone } }))
        go (inr h) =
            inr (others.from depth placed value
            (record { from = s.from; is = s.is; stands = record { passes = h; alone = s.stands.alone } }))

-- What an opener opens is read with the room that is left, unless there is none.
abbrev pub Inside : {A : Type 0} → ℕ → Form A → Form A → Option (Reader A) → List ℕ → Type 0
Inside zero T P None goes = Inhabited T
Inside zero T P (Some p) goes = ⊥
Inside (suc room) T P None goes = ⊥
Inside (suc room) T P (Some p) goes = Inhabited T × Sound room T p × Complete room P (among goes) p

opens : {A : Type 0} {T P : Form A} {goes : List ℕ} (room n : ℕ) (inner : Option (Reader A)) → Inside room T P inner goes
    → Reads room (OpenedBy (among (n ∷ [])) T) (OpenedBy (among (n ∷ [])) P) (read_opened (among (n ∷ [])) inner) (n ∷ []) goes
opens {T = T} {P = P} {goes = goes} zero n None full = record {
  starts = starts_opened (among (n ∷ [])) P;
  starts_tall = starts_opened (among (n ∷ [])) T;
  inhabited = inhabited_opened (among (n ∷ [])) T (token_of n) (token_among n []) full;
  sound = sound_opened_none (among (n ∷ [])) T (token_of n) (token_among n []) full;
  complete = complete_opened_none (among (n ∷ [])) P (among goes);
}
opens zero n (Some p) h = absurd h
opens (suc room) n None h = absurd h
opens {T = T} {P = P} {goes = goes} (suc room) n (Some p) h = record {
  starts = starts_opened (among (n ∷ [])) P;
  starts_tall = starts_opened (among (n ∷ [])) T;
  inhabited = inhabited_opened (among (n ∷ [])) T (token_of n) (token_among n []) h.0;
  sound = sound_opened room (among (n ∷ [])) T p (token_of n) (token_among n []) h.0 h.1;
  complete = complete_opened room (among (n ∷ [])) P (among goes) p h.2;
}

pub reads_opened : {A : Type 0} {T P : Form A} {goes : List ℕ} (text : String) (n : ℕ) → IsOf text n → (room : ℕ)
    (inner : Option (Reader A)) → Inside room T P inner goes
    → Reads room (Opened text T) (Opened text P) (read_opened (among (n ∷ [])) inner) (n ∷ []) goes
reads_opened {A = A} {T = T} {P = P} text n is room inner h = reads_as (from T) (to T) (to P) (opens room n inner h)
  where
    alike : Alike (IsWritten text) (n ∷ [])
    alike = alike_written text n is

    to : (Q : Form A) → Implies (Opened text Q) (OpenedBy (among (n ∷ [])) Q)
    to Q depth placed value s =
        record { token = s.token; inner = s.inner; passes = alike.to s.token s.opens; parts = s.parts; stands = s.stands }

    from : (Q : Form A) → Implies (OpenedBy (among (n ∷ [])) Q) (Opened text Q)
    from Q depth placed value s =
        record { token = s.token; inner = s.inner; opens = alike.from s.token s.passes; parts = s.parts; stands = s.stands }

-- A form that nests less deep is read with the room that is left, unless there is none.
abbrev pub Deeper : {A : Type 0} → ℕ → Form A → Form A → Option (Reader A) → List ℕ → List ℕ → Type 0
Deeper zero T P None first goes = Inhabited T
Deeper zero T P (Some p) first goes = ⊥
Deeper (suc room) T P None first goes = ⊥
Deeper (suc room) T P (Some p) first goes = Reads room T P p first goes

pub inside_with : {A B : Type 0} {first before : List ℕ} (room : ℕ) (T P : Form A) (U Q : Form B) (make : Reader A → Reader B)
    (inner : Option (Reader A)) (goes : List ℕ) → (Inhabited T → Inhabited U)
    → ((r : ℕ) (p : Reader A) → Reads r T P p first before → Sound r U (make p) × Complete r Q (among goes) (make p))
    → Deeper room T P inner first before → Inside room U Q (option_map make inner) goes
inside_with zero T P U Q make None goes full reads h = full h
inside_with zero T P U Q make (Some p) goes full reads h = absurd h
inside_with (suc room) T P U Q make None goes full reads h = absurd h
inside_with (suc room) T P U Q make (Some p) goes full reads h = let k = reads room p h in (full h.inhabited, k.0, k.1)

-- more tokens may be taken for going on
pub reads_wider : {A : Type 0} {room : ℕ} {T P : Form A} {p : Reader A} {first goes : List ℕ} (after : List ℕ) → subset goes after ≡ true
    → Reads room T P p first goes → Reads room T P p first after
reads_wider {room = room} {T = T} {P = P} {p = p} {first = first} {goes = goes} after c h = record {
  starts = h.starts;
  starts_tall = h.starts_tall;
  inhabited = h.inhabited;
  sound = h.sound;
  complete = complete_wider room P (among goes) (among after) p (covers goes after c) h.complete;
}

-- nothing is read of a form that no tokens fit
pub reads_shut : {A : Type 0} {room : ℕ} {T P : Form A} {p : Reader A} {first goes : List ℕ} → Reads room T P p first goes
    → Reads room T nothing p first goes
reads_shut h = record {
  starts = λ depth used value stands. absurd stands;
  starts_tall = h.starts_tall;
  inhabited = h.inhabited;
  sound = h.sound;
  complete = λ depth used value rest stands end. absurd stands;
}
