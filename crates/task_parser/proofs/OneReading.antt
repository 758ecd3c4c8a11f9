-- Tokens stand for one program, or have one first fault: each is what reading answers. Tokens of the grammar within the
-- limit are read, and where reading stops depends on no more than the next token (Again). Two fronts of the same tokens
-- are the same, or one goes beyond the other (Fronts); a first fault's front is neither shorter nor longer than the one
-- after which reading stops, so the fault is the stop that reading answers.
use Rattle.std.proofs.Common.{◌≡◌, ℕ, suc, ◌+◌, ◌≤◌, ◌⊎◌, inl, inr, Bool, true, false, cond, leb, List, [], ◌∷◌, ◌++◌, length, Result, Ok, Err, refl, sym, ap, subst, ◌∙◌, append_assoc, length-append, arith}
use Rattle.std.proofs.lemmas.List.{append-nil, append_cancel_right}
use Rattle.std.proofs.lemmas.Bool.{le-leb}
use Rattle.gp_base.specs.declared.limits.TheConstants.{DEEPEST_NESTING}
use Rattle.task_ast.specs.meaning.Tree.{Program}
use Rattle.task_parser.specs.declared.token.Token.{Token}
use Rattle.task_parser.specs.meaning.Words.{Placed, tokens_of}
use Rattle.task_parser.specs.inner.Reading.{◌>>=◌, unexpected}
use Rattle.task_parser.specs.meaning.Promise.{Stop}
use Rattle.task_parser.specs.inner.Laws.{Same, Outcome, verdict}
use Rattle.task_parser.specs.meaning.Promise.{Within}
use Rattle.task_parser.specs.meaning.Expressions.{Text}
use Rattle.task_parser.specs.meaning.Programs.{program}
use Rattle.task_parser.specs.inner.ProgramReaders.{read_program}
use Rattle.task_parser.specs.meaning.Promise.{Spelled, StandFor, Begins, CannotGoOn, NestsBeyond, FaultThere, StopFirst}
use Rattle.task_parser.specs.inner.WholeText.{to_end, read_all}
use Rattle.task_parser.specs.OneReading.{ProgramOrFault, NoFault, OneFault}
use Rattle.task_parser.proofs.Basics.{tokens-append, tokens_parts, verdict-append}
use Rattle.task_parser.proofs.ReadPrograms.{sound_program}
use Rattle.task_parser.proofs.Whole.{read_spelled, spelled_read, exactly_at}

-- ---- what reading answers on tokens of the grammar

-- tokens within the limit are read, and the answer is that of the tokens after them
verdict_within : {A : Type 0} (limit : ℕ) (placed : List Placed) (rest : List Token) (answer : Result A Stop) → Within limit placed
    → verdict limit placed rest answer ≡ answer
verdict_within limit [] rest answer h = refl
verdict_within limit (p ∷ placed) rest answer h = rw (le-leb p.nesting limit h.0) (verdict_within limit placed rest answer h.1)

front_answer : (text : Text) (p : Program) (front more : List Placed) → Within DEEPEST_NESTING front → Spelled text p (front ++ more)
    → read_all text (tokens_of front ++ (tokens_of more ++ [])) ≡ verdict DEEPEST_NESTING more [] (Ok p)
front_answer text p front more within h =
    ap (read_all text) (sym (tokens_parts front more []) ∙ append-nil (tokens_of (front ++ more)))
    ∙ read_spelled text p (front ++ more) h
    ∙ verdict-append DEEPEST_NESTING front more [] (Ok p)
    ∙ verdict_within DEEPEST_NESTING front (tokens_of more ++ []) (verdict DEEPEST_NESTING more [] (Ok p)) within

tokens_length : (placed : List Placed) → length (tokens_of placed) ≡ length placed
tokens_length [] = refl
tokens_length (p ∷ placed) = ap suc (tokens_length placed)

-- where tokens of the grammar are not read, the stop is among them
stops_among : {A : Type 0} (limit : ℕ) (placed : List Placed) (value : A) (stop : Stop) → verdict limit placed [] (Ok value) ≡ Err stop
    → length stop.rest ≤ length placed
stops_among limit [] value stop e = absurd cc
stops_among {A = A} limit (p ∷ placed) value stop e = go (leb p.nesting limit) e (stops_among limit placed value stop)
  where
    go : (b : Bool) → cond b (verdict limit placed [] (Ok value)) (Err (record { deep = true; rest = p.token ∷ (tokens_of placed ++ []) }))
        ≡ Err stop → (verdict limit placed [] (Ok value) ≡ Err stop → length stop.rest ≤ length placed)
        → length stop.rest ≤ suc (length placed)
    go true e next = omega (arith, next e)
    go false e next =
        let stopped : record { deep = true; rest = p.token ∷ (tokens_of placed ++ []) } ≡ stop = cc in
        omega (arith, ap (λ (s : Stop). length s.rest) stopped, ap length (append-nil (tokens_of placed)), tokens_length placed)

-- ---- where reading stops depends on no more than the next token

Again : Text → List Token → Stop → Type 0
Again text tokens stop =
    (front : List Token) × (tokens ≡ front ++ stop.rest)
    × ((other : List Token) → Same stop.rest other → read_all text (front ++ other) ≡ Err (record { deep = stop.deep; rest = other }))

unexpected_next : (p : Program) (next : Token) (rest other : List Token) → Same (next ∷ rest) other → to_end p other ≡ unexpected other
unexpected_next p next rest [] same = absurd same
unexpected_next p next rest (y ∷ ys) same = refl

abbrev at_end : Program × List Token → Result Program Stop
at_end x = to_end x.0 x.1

again : (text : Text) (tokens : List Token) (stop : Stop) (r : Result (Program × List Token) Stop)
    → Outcome (0 + DEEPEST_NESTING) 0 (program text (suc (suc DEEPEST_NESTING))) (read_program text DEEPEST_NESTING) tokens r
    → (r >>= at_end) ≡ Err stop → Again text tokens stop
unfolding Again read_all
again text tokens stop (Ok (p, [])) h e = absurd cc
again text tokens stop (Ok (p, t ∷ ts)) h e =
    let is : record { deep = false; rest = t ∷ ts } ≡ stop = cc in
    subst (Again text tokens) is (tokens_of h.used, h.parts, λ other same. rw (h.again other same) (unexpected_next p t ts other same))
again text tokens stop (Err s) h e =
    let is : s ≡ stop = cc in
    subst (Again text tokens) is (tokens_of h.used, h.parts, λ other same. rw (h.again other same) refl)

stops_again : (text : Text) (front : List Token) (stop : Stop) → read_all text (front ++ stop.rest) ≡ Err stop → (other : List Token)
    → Same stop.rest other → read_all text (front ++ other) ≡ Err (record { deep = stop.deep; rest = other })
unfolding Again read_all
stops_again text front stop e other same =
    let h =
    again text (front ++ stop.rest) stop (read_program text DEEPEST_NESTING (front ++ stop.rest))
    (sound_program text DEEPEST_NESTING 0 (front ++ stop.rest)) e in
    rw (append_cancel_right front h.0 stop.rest h.1) (h.2 other same)

-- ---- two fronts of the same tokens

-- the front a goes beyond the front b
record Longer (a : List Placed) (r : List Token) (b : List Placed) (s : List Token) : Type 0 where
  same : List Placed
  next : Placed
  more : List Placed
  parts : a ≡ same ++ next ∷ more
  alike : tokens_of same ≡ tokens_of b
  rest : s ≡ next.token ∷ (tokens_of more ++ r)

data Fronts (a : List Placed) (r : List Token) (b : List Placed) (s : List Token) : Type 0 where
  equal : tokens_of a ≡ tokens_of b → r ≡ s → Fronts a r b s
  first_longer : Longer a r b s → Fronts a r b s
  second_longer : Longer b s a r → Fronts a r b s

longer_after : {a b : List Placed} {r s : List Token} (p q : Placed) → p.token ≡ q.token → Longer a r b s → Longer (p ∷ a) r (q ∷ b) s
longer_after p q e l =
    record {
      same = p ∷ l.same;
      next = l.next;
      more = l.more;
      parts = ap (λ (x : List Placed). p ∷ x) l.parts;
      alike = let f = l.alike in
          cc;
      rest = l.rest;
    }

fronts_after : {a b : List Placed} {r s : List Token} (p q : Placed) → p.token ≡ q.token → Fronts a r b s → Fronts (p ∷ a) r (q ∷ b) s
fronts_after p q e (equal f g) = equal (cc) g
fronts_after p q e (first_longer l) = first_longer (longer_after p q e l)
fronts_after p q e (second_longer l) = second_longer (longer_after q p (sym e) l)

fronts : (a b : List Placed) (r s : List Token) → tokens_of a ++ r ≡ tokens_of b ++ s → Fronts a r b s
fronts [] [] r s e = equal refl e
fronts [] (q ∷ b) r s e = second_longer (record { same = []; next = q; more = b; parts = refl; alike = refl; rest = e })
fronts (p ∷ a) [] r s e = first_longer (record { same = []; next = p; more = a; parts = refl; alike = refl; rest = sym e })
fronts (p ∷ a) (q ∷ b) r s e = fronts_after p q (cc) (fronts a b r s (cc))

-- ---- a first fault is what reading answers

begins_less : (text : Text) (front more : List Placed) → Begins text (front ++ more) → Begins text front
begins_less text front more h =
    record { more = more ++ h.more; p = h.p; spelled = subst (Spelled text h.p) (append_assoc front more h.more) h.spelled }

-- no program begins with more than what can't go on
not_longer : (text : Text) (front : List Placed) (rest : List Token) (other : List Placed) (left : List Token) → CannotGoOn text front rest
    → Begins text other → Longer other left front rest → ⊥
not_longer text front rest other left cannot begun l =
    let stuck : CannotGoOn text front (l.next.token ∷ (tokens_of l.more ++ left)) = subst (CannotGoOn text front) l.rest cannot in
    stuck (
      l.same ++ l.next ∷ [],
      tokens-append l.same (l.next ∷ []) ∙ ap (λ (ts : List Token). ts ++ l.next.token ∷ []) l.alike,
      begins_less text (l.same ++ l.next ∷ []) l.more (subst (Begins text) (l.parts ∙ sym (append_assoc l.same (l.next ∷ []) l.more)) begun),
    )

-- reading stops at no token of a program's beginning that is within the limit
not_within : (text : Text) (front : List Placed) (rest : List Token) (before : List Placed) (stop : Stop) → Within DEEPEST_NESTING front
    → Begins text front → read_all text (tokens_of before ++ stop.rest) ≡ Err stop → Longer front rest before stop.rest → ⊥
not_within text front rest before stop within begun e l =
    let n : ℕ = length (tokens_of begun.more ++ []) in
    let short : length other ≤ length begun.more =
    stops_among DEEPEST_NESTING begun.more begun.p (record { deep = stop.deep; rest = other })
    (sym (front_answer text begun.p front begun.more within begun.spelled) ∙ ap (read_all text) line
    ∙ stops_again text (tokens_of before) stop e other same) in
    absurd (omega (
      arith,
      short,
      length-append (tokens_of l.more) (tokens_of begun.more ++ []),
      ap length (append-nil (tokens_of begun.more)),
      tokens_length begun.more,
    ))
  where
    other : List Token
    other = l.next.token ∷ (tokens_of l.more ++ (tokens_of begun.more ++ []))

    same : Same stop.rest other
    same = subst (λ (ts : List Token). Same ts other) (sym l.rest) refl

    line : tokens_of front ++ (tokens_of begun.more ++ []) ≡ tokens_of before ++ other
    line =
        ap (λ (placed : List Placed). tokens_of placed ++ (tokens_of begun.more ++ [])) l.parts
        ∙ tokens_parts l.same (l.next ∷ l.more) (tokens_of begun.more ++ []) ∙ ap (λ (ts : List Token). ts ++ other) l.alike

-- the token that nests too deep can stand there
not_deep : (text : Text) (front : List Placed) (rest : List Token) (other : List Placed) (left : List Token) → CannotGoOn text front rest
    → tokens_of other ≡ tokens_of front → left ≡ rest → NestsBeyond text other left → ⊥
not_deep text front rest other [] cannot same e beyond = beyond
not_deep text front rest other (next ∷ left) cannot same e beyond =
    let stuck : CannotGoOn text front (next ∷ left) = subst (CannotGoOn text front) (sym e) cannot in
    stuck (other ++ at ∷ [], tokens-append other (at ∷ []) ∙ ap (λ (ts : List Token). ts ++ next ∷ []) same, beyond)
  where
    at : Placed
    at = record { token = next; nesting = suc DEEPEST_NESTING }

deep_answer : (text : Text) (front : List Placed) (rest : List Token) → Within DEEPEST_NESTING front → NestsBeyond text front rest
    → read_all text (tokens_of front ++ rest) ≡ Err (record { deep = true; rest = rest })
deep_answer text front [] within h = absurd h
deep_answer text front (next ∷ rest) within h =
    stops_again text (tokens_of front) (record { deep = true; rest = next ∷ (tokens_of h.more ++ []) })
    (front_answer text h.p front (at ∷ h.more) within (subst (Spelled text h.p) (append_assoc front (at ∷ []) h.more) h.spelled))
    (next ∷ rest) refl
  where
    at : Placed
    at = record { token = next; nesting = suc DEEPEST_NESTING }

module _ (text : Text) (tokens rest : List Token) (h : StopFirst text tokens (record { deep = false; rest = rest })) where
  no_program_there : (p : Program) → StandFor text tokens p → ⊥
  no_program_there p k = go (fronts k.placed h.front [] rest (append-nil (tokens_of k.placed) ∙ sym k.same ∙ h.parts))
    where
      go : Fronts k.placed [] h.front rest → ⊥
      go (equal e f) =
          let stuck : CannotGoOn text h.front [] = subst (CannotGoOn text h.front) (sym f) h.fault in
          stuck (p, k.placed, e, k.spelled)
      go (first_longer l) =
          not_longer text h.front rest k.placed [] h.fault
          (record { more = []; p = p; spelled = subst (Spelled text p) (sym (append-nil k.placed)) k.spelled }) l
      go (second_longer l) = let e = l.rest in absurd cc

  same_stop : (deep : Bool) (left : List Token) → read_all text tokens ≡ Err (record { deep = deep; rest = left })
      → StopFirst text tokens (record { deep = deep; rest = left })
      → ◌≡◌ {A = Stop} (record { deep = deep; rest = left }) (record { deep = false; rest = rest })
  same_stop deep left e k = go deep k.fault (fronts k.front h.front left rest (sym k.parts ∙ h.parts))
    where
      go : (deep : Bool) → FaultThere deep text k.front left → Fronts k.front left h.front rest
          → ◌≡◌ {A = Stop} (record { deep = deep; rest = left }) (record { deep = false; rest = rest })
      go false fault (equal f g) = ap (λ (ts : List Token). record { deep = false; rest = ts }) g
      go true fault (equal f g) = absurd (not_deep text h.front rest k.front left h.fault f g fault)
      go _ fault (first_longer l) = absurd (not_longer text h.front rest k.front left h.fault k.begins l)
      go _ fault (second_longer l) =
          absurd (not_within text h.front rest k.front (record { deep = deep; rest = left }) h.within h.begins
          (ap (read_all text) (sym k.parts) ∙ e) l)

  unexpected_answer : read_all text tokens ≡ unexpected rest
  unexpected_answer = go (read_all text tokens) refl
    where
      go : (r : Result Program Stop) → read_all text tokens ≡ r → r ≡ unexpected rest
      go (Ok p) e = absurd (no_program_there p (exactly_at text tokens (Ok p) e))
      go (Err s) e = ap Err (same_stop s.deep s.rest e (exactly_at text tokens (Err s) e))

pub first_fault_answer : (text : Text) (tokens : List Token) (stop : Stop) → StopFirst text tokens stop → read_all text tokens ≡ Err stop
first_fault_answer text tokens stop h = go stop.deep stop.rest h
  where
    go : (deep : Bool) (rest : List Token) → StopFirst text tokens (record { deep = deep; rest = rest })
        → read_all text tokens ≡ Err (record { deep = deep; rest = rest })
    go false rest h = unexpected_answer text tokens rest h
    go true rest h = ap (read_all text) h.parts ∙ deep_answer text h.front rest h.within h.fault

-- ---- the laws

pub program_or_fault : ProgramOrFault
program_or_fault text tokens = go (read_all text tokens) refl
  where
    go : (r : Result Program Stop) → read_all text tokens ≡ r
        → ((p : Program) × StandFor text tokens p) ⊎ ((stop : Stop) × StopFirst text tokens stop)
    go (Ok p) e = inl (p, exactly_at text tokens (Ok p) e)
    go (Err stop) e = inr (stop, exactly_at text tokens (Err stop) e)

pub no_fault : NoFault
no_fault text tokens p stop h k = cc (spelled_read text tokens p h, first_fault_answer text tokens stop k)

pub one_fault : OneFault
one_fault text tokens a b h k = cc (first_fault_answer text tokens a h, first_fault_answer text tokens b k)
