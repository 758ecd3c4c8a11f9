-- Each word of the grammar is read exactly where its parts are. A word of the grammar makes a form and a reader of
-- parts. Sound says that whatever the reader answers is true of the form, Complete that it takes all of the form's
-- tokens where none after them could go on with it. Each word has a lemma for each of the two; where one part follows
-- another, what the next may begin with must be apart from what could go on with the one before.
use Rattle.std.proofs.Common.{◌≡◌, ℕ, suc, ◌+◌, ◌≤◌, Bool, true, false, cond, leb, List, [], ◌∷◌, ◌++◌, Option, Some, None, Result, Ok, Err, refl, sym, ap, subst, ◌∙◌, inl, inr, append_assoc, arith}
use Rattle.std.proofs.lemmas.Bool.{le-leb, lt-leb}
use Rattle.task_parser.specs.declared.token.Token.{Token}
use Rattle.task_parser.specs.meaning.Words.{Placed, Form, One, Both, Made, ◌∣◌, tokens_of}
use Rattle.task_parser.specs.inner.Reading.{Reader, begins, unexpected, ◌>>=◌, read_one, read_both, read_made, read_either, enter, read_opened}
use Rattle.task_parser.specs.meaning.Promise.{Stop}
use Rattle.task_parser.specs.inner.Laws.{Same, Took, Outcome, Sound, verdict, Complete, Starts, Inhabited, Parted}
use Rattle.task_parser.proofs.Basics.{tokens-append, tokens_parts, Within-append, same_after, begins_same, verdict-bind, verdict-append, GoesBeyond-append}

-- ---- two in a row

both_second : {A B : Type 0} (limit depth : ℕ) (P : Form A) (Q : Form B) (p : Reader A) (q : Reader B) (ts : List Token) (x : A)
    (rest : List Token) → Took limit depth P p ts x rest → (r : Result (B × List Token) Stop) → Outcome limit depth Q q rest r
    → Outcome limit depth (Both P Q) (read_both p q) ts (r >>= λ y. Ok ((x, y.0), y.1))
both_second limit depth P Q p q ts x rest h (Ok (y, end)) k = record {
  used = h.used ++ k.used;
  parts = h.parts ∙ ap (λ (t : List Token). tokens_of h.used ++ t) k.parts ∙ sym (tokens_parts h.used k.used end);
  within = Within-append limit h.used k.used h.within k.within;
  stands = record { front = h.used; back = k.used; parts = refl; first = h.stands; second = k.stands };
  again = λ other same.
      rw (
        tokens_parts h.used k.used other,
        h.again (tokens_of k.used ++ other)
            (subst (λ (t : List Token). Same t (tokens_of k.used ++ other)) (sym k.parts) (same_after (tokens_of k.used) end other same)),
        k.again other same,
      ) refl;
}
both_second limit depth P Q p q ts x rest h (Err stop) k = record {
  used = h.used ++ k.used;
  more = k.more;
  value = (x, k.value);
  parts = h.parts ∙ ap (λ (t : List Token). tokens_of h.used ++ t) k.parts ∙ sym (tokens_parts h.used k.used stop.rest);
  within = Within-append limit h.used k.used h.within k.within;
  stands =
      record { front = h.used; back = k.used ++ k.more; parts = append_assoc h.used k.used k.more; first = h.stands; second = k.stands };
  beyond = k.beyond;
  again = λ other same.
      rw (
        tokens_parts h.used k.used other,
        h.again (tokens_of k.used ++ other)
            (subst (λ (t : List Token). Same t (tokens_of k.used ++ other)) (sym k.parts)
            (same_after (tokens_of k.used) stop.rest other same)),
        k.again other same,
      ) refl;
}

pub both_first : {A B : Type 0} (limit depth : ℕ) (P : Form A) (Q : Form B) (p : Reader A) (q : Reader B) (ts : List Token)
    → ((x : A) (rest : List Token) → Took limit depth P p ts x rest → Outcome limit depth Q q rest (q rest)) → Inhabited Q
    → (r : Result (A × List Token) Stop) → Outcome limit depth P p ts r
    → Outcome limit depth (Both P Q) (read_both p q) ts (r >>= λ x. q x.1 >>= λ y. Ok ((x.0, y.0), y.1))
both_first limit depth P Q p q ts next full (Ok (x, rest)) h = both_second limit depth P Q p q ts x rest h (q rest) (next x rest h)
both_first limit depth P Q p q ts next full (Err stop) h = let c = full depth in record {
  used = h.used;
  more = h.more ++ c.0;
  value = (h.value, c.1);
  parts = h.parts;
  within = h.within;
  stands = record { front = h.used ++ h.more; back = c.0; parts = sym (append_assoc h.used h.more c.0); first = h.stands; second = c.2 };
  beyond = GoesBeyond-append stop.deep limit stop.rest h.more c.0 h.beyond;
  again = λ other same. rw (h.again other same) refl;
}

pub sound_both : {A B : Type 0} (room : ℕ) (P : Form A) (Q : Form B) (p : Reader A) (q : Reader B) → Sound room P p → Sound room Q q
    → Inhabited Q → Sound room (Both P Q) (read_both p q)
sound_both room P Q p q sp sq full depth ts =
    both_first (depth + room) depth P Q p q ts (λ x rest h. sq depth rest) full (p ts) (sp depth ts)

pub complete_both : {A B : Type 0} (room : ℕ) (P : Form A) (Q : Form B) (goes after : Token → Bool) (p : Reader A) (q : Reader B)
    → Complete room P goes p → Complete room Q after q → Parted goes Q after → Complete room (Both P Q) after (read_both p q)
complete_both {A = A} {B = B} room P Q goes after p q cp cq parted depth used value rest h end =
    rw (
      h.parts,
      tokens_parts h.front h.back rest,
      cp depth h.front value.0 (tokens_of h.back ++ rest) h.first (parted depth h.back value.1 rest h.second end),
      verdict-bind {A = A × List Token} {B = (A × B) × List Token} (depth + room) h.front (tokens_of h.back ++ rest)
          (Ok (value.0, tokens_of h.back ++ rest)) (λ x. q x.1 >>= λ y. Ok ((x.0, y.0), y.1)),
      cq depth h.back value.1 rest h.second end,
      verdict-bind {A = B × List Token} {B = (A × B) × List Token} (depth + room) h.back rest (Ok (value.1, rest))
          (λ y. Ok ((value.0, y.0), y.1)),
    )
    (sym (verdict-append (depth + room) h.front h.back rest (Ok (value, rest))))

pub starts_both : {A B : Type 0} (first : Token → Bool) (P : Form A) (Q : Form B) → Starts first P → Starts first (Both P Q)
starts_both first P Q sp depth used value h =
    rw (h.parts, tokens-append h.front h.back)
    (begins_longer first (tokens_of h.front) (tokens_of h.back) (sp depth h.front value.0 h.first))
  where
    begins_longer : (test : Token → Bool) (a b : List Token) → begins test a ≡ true → begins test (a ++ b) ≡ true
    begins_longer test [] b e = absurd cc
    begins_longer test (t ∷ a) b e = e

pub inhabited_both : {A B : Type 0} (P : Form A) (Q : Form B) → Inhabited P → Inhabited Q → Inhabited (Both P Q)
inhabited_both P Q ip iq depth =
    let a = ip depth in
    let b = iq depth in
    (a.0 ++ b.0, (a.1, b.1), record { front = a.0; back = b.0; parts = refl; first = a.2; second = b.2 })

-- ---- the same tokens for another value

pub made_any : {A B : Type 0} (limit depth : ℕ) (make : A → B) (P : Form A) (p : Reader A) (ts : List Token)
    (r : Result (A × List Token) Stop) → Outcome limit depth P p ts r
    → Outcome limit depth (Made make P) (read_made make p) ts (r >>= λ x. Ok (make x.0, x.1))
made_any limit depth make P p ts (Ok (x, rest)) h = record {
  used = h.used;
  parts = h.parts;
  within = h.within;
  stands = record { from = x; is = refl; stands = h.stands };
  again = λ other same. rw (h.again other same) refl;
}
made_any limit depth make P p ts (Err stop) h = record {
  used = h.used;
  more = h.more;
  value = make h.value;
  parts = h.parts;
  within = h.within;
  stands = record { from = h.value; is = refl; stands = h.stands };
  beyond = h.beyond;
  again = λ other same. rw (h.again other same) refl;
}

pub sound_made : {A B : Type 0} (room : ℕ) (make : A → B) (P : Form A) (p : Reader A) → Sound room P p
    → Sound room (Made make P) (read_made make p)
sound_made room make P p sp depth ts = made_any (depth + room) depth make P p ts (p ts) (sp depth ts)

pub complete_made : {A B : Type 0} (room : ℕ) (make : A → B) (P : Form A) (goes : Token → Bool) (p : Reader A) → Complete room P goes p
    → Complete room (Made make P) goes (read_made make p)
complete_made {A = A} {B = B} room make P goes p cp depth used value rest h end =
    rw (h.is, cp depth used h.from rest h.stands end)
    (verdict-bind {A = A × List Token} {B = B × List Token} (depth + room) used rest (Ok (h.from, rest)) (λ x. Ok (make x.0, x.1)))

pub starts_made : {A B : Type 0} (first : Token → Bool) (make : A → B) (P : Form A) → Starts first P → Starts first (Made make P)
starts_made first make P sp depth used value h = sp depth used h.from h.stands

pub inhabited_made : {A B : Type 0} (make : A → B) (P : Form A) → Inhabited P → Inhabited (Made make P)
inhabited_made make P ip depth = let a = ip depth in (a.0, make a.1, record { from = a.1; is = refl; stands = a.2 })

-- ---- one token

abbrev pub Passes : (Token → Bool) → Token → Type 0
Passes test t = test t ≡ true

one_cases : (limit depth : ℕ) (test : Token → Bool) (t : Token) (ts : List Token) → depth ≤ limit → (x : Token) → test x ≡ true → (b : Bool)
    → test t ≡ b → Outcome limit depth (One (Passes test)) (read_one test) (t ∷ ts) (cond b (Ok (t, ts)) (unexpected (t ∷ ts)))
one_cases limit depth test t ts room x fits true e = record {
  used = record { token = t; nesting = depth } ∷ [];
  parts = refl;
  within = (room, tt);
  stands = record { passes = e; alone = refl };
  again = λ other same. rw e refl;
}
one_cases limit depth test t ts room x fits false e = record {
  used = [];
  more = record { token = x; nesting = depth } ∷ [];
  value = x;
  parts = refl;
  within = tt;
  stands = record { passes = fits; alone = refl };
  beyond = tt;
  again = λ other same. again other same;
}
  where
    again : (other : List Token) → Same (t ∷ ts) other → read_one test other ≡ Err (record { deep = false; rest = other })
    again [] same = absurd same
    again (y ∷ ys) same = rw (← same, e) refl

-- a token passes
pub sound_one : (room : ℕ) (test : Token → Bool) (x : Token) → test x ≡ true → Sound room (One (Passes test)) (read_one test)
sound_one room test x fits depth [] = record {
  used = [];
  more = record { token = x; nesting = depth } ∷ [];
  value = x;
  parts = refl;
  within = tt;
  stands = record { passes = fits; alone = refl };
  beyond = tt;
  again = λ other same. again other same;
}
  where
    again : (other : List Token) → Same [] other → read_one test other ≡ Err (record { deep = false; rest = other })
    again [] same = refl
    again (y ∷ ys) same = absurd same
sound_one room test x fits depth (t ∷ ts) = one_cases (depth + room) depth test t ts (omega arith) x fits (test t) refl

abbrev pub no_token : Token → Bool
no_token t = false

pub complete_one : (room : ℕ) (test goes : Token → Bool) → Complete room (One (Passes test)) goes (read_one test)
complete_one room test goes depth used value rest h end =
    rw (h.alone, h.passes, fits) refl
  where
    fits : leb depth (depth + room) ≡ true
    fits = le-leb depth (depth + room) (omega arith)

pub starts_one : (test : Token → Bool) → Starts test (One (Passes test))
starts_one test depth used value h = rw h.alone h.passes

pub inhabited_one : (test : Token → Bool) (x : Token) → test x ≡ true → Inhabited (One (Passes test))
inhabited_one test x fits depth = (record { token = x; nesting = depth } ∷ [], x, record { passes = fits; alone = refl })

-- ---- a construct that nests

-- a token that passes the test opens the construct, and the P in it
pub record OpenedBy {A : Type 0} (test : Token → Bool) (P : Form A) (depth : ℕ) (placed : List Placed) (value : A) : Type 0 where
  pub token : Token
  pub inner : List Placed
  pub passes : test token ≡ true
  pub parts : placed ≡ record { token = token; nesting = suc depth } ∷ inner
  pub stands : P (suc depth) inner value

opened_in : {A : Type 0} (limit depth : ℕ) (test : Token → Bool) (P : Form A) (p : Reader A) (t : Token) (ts : List Token)
    → suc depth ≤ limit → test t ≡ true → (r : Result (A × List Token) Stop) → Outcome limit (suc depth) P p ts r
    → Outcome limit depth (OpenedBy test P) (read_opened test (Some p)) (t ∷ ts) r
opened_in limit depth test P p t ts room passes (Ok (x, rest)) h = record {
  used = record { token = t; nesting = suc depth } ∷ h.used;
  parts = ap (λ (l : List Token). t ∷ l) h.parts;
  within = (room, h.within);
  stands = record { token = t; inner = h.used; passes = passes; parts = refl; stands = h.stands };
  again = λ other same. rw (passes, h.again other same) refl;
}
opened_in limit depth test P p t ts room passes (Err stop) h = record {
  used = record { token = t; nesting = suc depth } ∷ h.used;
  more = h.more;
  value = h.value;
  parts = ap (λ (l : List Token). t ∷ l) h.parts;
  within = (room, h.within);
  stands = record { token = t; inner = h.used ++ h.more; passes = passes; parts = refl; stands = h.stands };
  beyond = h.beyond;
  again = λ other same. rw (passes, h.again other same) refl;
}

-- no token, or one that doesn't open it
opened_not : {A : Type 0} (limit depth : ℕ) (test : Token → Bool) (P : Form A) (inner : Option (Reader A)) (x : Token) → test x ≡ true
    → Inhabited P → (ts : List Token) → begins test ts ≡ false
    → Outcome limit depth (OpenedBy test P) (read_opened test inner) ts (unexpected ts)
opened_not limit depth test P inner x fits full ts e = let c = full (suc depth) in record {
  used = [];
  more = record { token = x; nesting = suc depth } ∷ c.0;
  value = c.1;
  parts = refl;
  within = tt;
  stands = record { token = x; inner = c.0; passes = fits; parts = refl; stands = c.2 };
  beyond = tt;
  again = λ other same. again other (begins_same test ts other same ∙ e);
}
  where
    again : (other : List Token) → begins test other ≡ false → read_opened test inner other ≡ Err (record { deep = false; rest = other })
    again [] e = refl
    again (y ∷ ys) e = rw e refl

opened_deep : {A : Type 0} (depth : ℕ) (test : Token → Bool) (P : Form A) (t : Token) (ts : List Token) → test t ≡ true → Inhabited P
    → Outcome depth depth (OpenedBy test P) (read_opened test None) (t ∷ ts) (Err (record { deep = true; rest = t ∷ ts }))
opened_deep {A = A} depth test P t ts passes full = let c = full (suc depth) in record {
  used = [];
  more = record { token = t; nesting = suc depth } ∷ c.0;
  value = c.1;
  parts = refl;
  within = tt;
  stands = record { token = t; inner = c.0; passes = passes; parts = refl; stands = c.2 };
  beyond = (refl, refl);
  again = λ other same. again other same;
}
  where
    again : (other : List Token) → Same (t ∷ ts) other → read_opened {A = A} test None other ≡ Err (record { deep = true; rest = other })
    again [] same = absurd same
    again (y ∷ ys) same = rw (← same, passes) refl

-- reading after a token that is the opener or not
abbrev opening : {A : Type 0} → Option (Reader A) → Token → List Token → Bool → Result (A × List Token) Stop
opening inner t ts b =
    let opened : Result (Token × List Token) Stop = cond b (Ok (t, ts)) (unexpected (t ∷ ts)) in
    opened >>= λ x. enter inner (t ∷ ts) x.1

pub sound_opened : {A : Type 0} (room : ℕ) (test : Token → Bool) (P : Form A) (p : Reader A) (x : Token) → test x ≡ true → Inhabited P
    → Sound room P p → Sound (suc room) (OpenedBy test P) (read_opened test (Some p))
sound_opened room test P p x fits full sp depth [] = opened_not (depth + suc room) depth test P (Some p) x fits full [] refl
sound_opened {A = A} room test P p x fits full sp depth (t ∷ ts) = go (test t) refl
  where
    inside : Outcome (depth + suc room) (suc depth) P p ts (p ts)
    inside = subst (λ (limit : ℕ). Outcome limit (suc depth) P p ts (p ts)) (omega arith) (sp (suc depth) ts)

    go : (b : Bool) → test t ≡ b
        → Outcome (depth + suc room) depth (OpenedBy test P) (read_opened test (Some p)) (t ∷ ts) (opening (Some p) t ts b)
    go true e = opened_in (depth + suc room) depth test P p t ts (omega arith) e (p ts) inside
    go false e = opened_not (depth + suc room) depth test P (Some p) x fits full (t ∷ ts) e

-- where there is no room for one more
pub sound_opened_none : {A : Type 0} (test : Token → Bool) (P : Form A) (x : Token) → test x ≡ true → Inhabited P
    → Sound 0 (OpenedBy test P) (read_opened test None)
sound_opened_none {A = A} test P x fits full depth ts =
    subst (λ (limit : ℕ). Outcome limit depth (OpenedBy test P) (read_opened test None) ts (read_opened test None ts)) (omega arith) (at ts)
  where
    here : (t : Token) (ts : List Token) (b : Bool) → test t ≡ b
        → Outcome depth depth (OpenedBy test P) (read_opened test None) (t ∷ ts) (opening None t ts b)
    here t ts true e = opened_deep depth test P t ts e full
    here t ts false e = opened_not depth depth test P None x fits full (t ∷ ts) e

    at : (ts : List Token) → Outcome depth depth (OpenedBy test P) (read_opened test None) ts (read_opened test None ts)
    at [] = opened_not depth depth test P None x fits full [] refl
    at (t ∷ ts) = here t ts (test t) refl

pub complete_opened : {A : Type 0} (room : ℕ) (test : Token → Bool) (P : Form A) (goes : Token → Bool) (p : Reader A)
    → Complete room P goes p → Complete (suc room) (OpenedBy test P) goes (read_opened test (Some p))
complete_opened {A = A} room test P goes p cp depth used value rest h end =
    rw (h.parts, h.passes, fits, cp (suc depth) h.inner value rest h.stands end)
    (ap (λ (limit : ℕ). verdict limit h.inner rest ok) (omega arith))
  where
    fits : leb (suc depth) (depth + suc room) ≡ true
    fits = le-leb (suc depth) (depth + suc room) (omega arith)

    ok : Result (A × List Token) Stop
    ok = Ok (value, rest)

pub complete_opened_none : {A : Type 0} (test : Token → Bool) (P : Form A) (goes : Token → Bool)
    → Complete 0 (OpenedBy test P) goes (read_opened test None)
complete_opened_none test P goes depth used value rest h end = rw (h.parts, h.passes, fits) refl
  where
    fits : leb (suc depth) (depth + 0) ≡ false
    fits = lt-leb (suc depth) (depth + 0) (omega arith)

pub starts_opened : {A : Type 0} (test : Token → Bool) (P : Form A) → Starts test (OpenedBy test P)
starts_opened test P depth used value h = rw h.parts h.passes

pub inhabited_opened : {A : Type 0} (test : Token → Bool) (P : Form A) (x : Token) → test x ≡ true → Inhabited P → Inhabited (OpenedBy test P)
inhabited_opened test P x fits full depth =
    let c = full (suc depth) in
    (record { token = x; nesting = suc depth } ∷ c.0, c.1, record { token = x; inner = c.0; passes = fits; parts = refl; stands = c.2 })

-- ---- one or the other

-- what holds of a reader holds of one that reads alike from here
pub outcome_as : {A : Type 0} (limit depth : ℕ) (P R : Form A) (p r : Reader A) (ts : List Token)
    → ((placed : List Placed) (value : A) → P depth placed value → R depth placed value)
    → ((other : List Token) → Same ts other → r other ≡ p other) → (res : Result (A × List Token) Stop) → Outcome limit depth P p ts res
    → Outcome limit depth R r ts res
outcome_as limit depth P R p r ts more alike (Ok (x, rest)) h = record {
  used = h.used;
  parts = h.parts;
  within = h.within;
  stands = more h.used x h.stands;
  again =
      λ other same. alike (tokens_of h.used ++ other)
      (subst (λ (t : List Token). Same t (tokens_of h.used ++ other)) (sym h.parts) (same_after (tokens_of h.used) rest other same))
      ∙ h.again other same;
}
outcome_as limit depth P R p r ts more alike (Err stop) h = record {
  used = h.used;
  more = h.more;
  value = h.value;
  parts = h.parts;
  within = h.within;
  stands = more (h.used ++ h.more) h.value h.stands;
  beyond = h.beyond;
  again =
      λ other same. alike (tokens_of h.used ++ other)
      (subst (λ (t : List Token). Same t (tokens_of h.used ++ other)) (sym h.parts)
      (same_after (tokens_of h.used) stop.rest other same)) ∙ h.again other same;
}

pub sound_either : {A : Type 0} (room : ℕ) (first : Token → Bool) (P Q : Form A) (p q : Reader A) → Sound room P p → Sound room Q q
    → Sound room (P ∣ Q) (read_either first p q)
sound_either {A = A} room first P Q p q sp sq depth ts = go (begins first ts) refl
  where
    go : (b : Bool) → begins first ts ≡ b → Outcome (depth + room) depth (P ∣ Q) (read_either first p q) ts (cond b (p ts) (q ts))
    go true e =
        outcome_as (depth + room) depth P (P ∣ Q) p (read_either first p q) ts (λ placed value h. inl h)
        (λ other same. rw (begins_same first ts other same, e) refl) (p ts) (sp depth ts)
    go false e =
        outcome_as (depth + room) depth Q (P ∣ Q) q (read_either first p q) ts (λ placed value h. inr h)
        (λ other same. rw (begins_same first ts other same, e) refl) (q ts) (sq depth ts)

pub begins_longer : (test : Token → Bool) (a b : List Token) → begins test a ≡ true → begins test (a ++ b) ≡ true
begins_longer test [] b e = absurd cc
begins_longer test (t ∷ a) b e = e

pub complete_either : {A : Type 0} (room : ℕ) (first after : Token → Bool) (P Q : Form A) (p q : Reader A) → Complete room P after p
    → Complete room Q after q → Starts first P → Parted first Q after → Complete room (P ∣ Q) after (read_either first p q)
complete_either room first after P Q p q cp cq sp parted depth used value rest (inl h) end =
    rw (begins_longer first (tokens_of used) rest (sp depth used value h)) (cp depth used value rest h end)
complete_either room first after P Q p q cp cq sp parted depth used value rest (inr h) end =
    rw (parted depth used value rest h end) (cq depth used value rest h end)

pub starts_either : {A : Type 0} (first : Token → Bool) (P Q : Form A) → Starts first P → Starts first Q → Starts first (P ∣ Q)
starts_either first P Q sp sq depth used value (inl h) = sp depth used value h
starts_either first P Q sp sq depth used value (inr h) = sq depth used value h

pub inhabited_left : {A : Type 0} (P Q : Form A) → Inhabited P → Inhabited (P ∣ Q)
inhabited_left P Q ip depth = let a = ip depth in (a.0, a.1, inl a.2)

pub inhabited_right : {A : Type 0} (P Q : Form A) → Inhabited Q → Inhabited (P ∣ Q)
inhabited_right P Q iq depth = let a = iq depth in (a.0, a.1, inr a.2)

-- ---- tests of tokens

-- what passes the one passes the other
abbrev pub Covers : (Token → Bool) → (Token → Bool) → Type 0
Covers narrow wide = (t : Token) → narrow t ≡ true → wide t ≡ true

abbrev pub Apart : (Token → Bool) → (Token → Bool) → Type 0
Apart first goes = (t : Token) → first t ≡ true → goes t ≡ false

pub begins_narrow : (narrow wide : Token → Bool) (ts : List Token) → Covers narrow wide → begins wide ts ≡ false → begins narrow ts ≡ false
begins_narrow narrow wide [] covers e = refl
begins_narrow narrow wide (t ∷ ts) covers e = go (narrow t) refl
  where
    go : (b : Bool) → narrow t ≡ b → b ≡ false
    go true h = absurd (cc (covers t h))
    go false h = refl

pub begins_apart : (first goes : Token → Bool) (a b : List Token) → Apart first goes → begins first a ≡ true → begins goes (a ++ b) ≡ false
begins_apart first goes [] b apart e = absurd cc
begins_apart first goes (t ∷ a) b apart e = apart t e

pub starts_wider : {A : Type 0} (narrow wide : Token → Bool) (P : Form A) → Covers narrow wide → Starts narrow P → Starts wide P
starts_wider narrow wide P covers sp depth used value h = go (tokens_of used) (sp depth used value h)
  where
    go : (ts : List Token) → begins narrow ts ≡ true → begins wide ts ≡ true
    go [] e = absurd cc
    go (t ∷ ts) e = covers t e

pub complete_wider : {A : Type 0} (room : ℕ) (P : Form A) (narrow wide : Token → Bool) (p : Reader A) → Covers narrow wide
    → Complete room P narrow p → Complete room P wide p
complete_wider room P narrow wide p covers cp depth used value rest h end =
    cp depth used value rest h (begins_narrow narrow wide rest covers end)

pub parted_starts : {B : Type 0} (first goes after : Token → Bool) (Q : Form B) → Starts first Q → Apart first goes → Parted goes Q after
parted_starts first goes after Q sq apart depth used value rest h end =
    begins_apart first goes (tokens_of used) rest apart (sq depth used value h)

pub parted_none : {B : Type 0} (after : Token → Bool) (Q : Form B) → Parted no_token Q after
parted_none after Q depth used value rest h end = go (tokens_of used ++ rest)
  where
    go : (ts : List Token) → begins no_token ts ≡ false
    go [] = refl
    go (t ∷ ts) = refl

pub parted_made : {A B : Type 0} (make : A → B) (goes after : Token → Bool) (Q : Form A) → Parted goes Q after
    → Parted goes (Made make Q) after
parted_made make goes after Q parted depth used value rest h end = parted depth used h.from rest h.stands end
