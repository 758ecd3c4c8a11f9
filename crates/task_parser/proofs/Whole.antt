-- Reading all of the tokens gives the program that they stand for, or the first fault. Reading takes a program's tokens
-- or halts, and says where. Tokens left over after a program are unexpected; a front after which reading halts can't go
-- on with the next token, or nests too deep there. So the answer is the program that all tokens stand for, or their
-- first fault.
use Rattle.std.proofs.Common.{◌≡◌, ℕ, suc, ◌+◌, Bool, true, false, cond, leb, List, [], ◌∷◌, ◌++◌, Result, Ok, Err, refl, sym, ap, subst, ◌∙◌, append_assoc, zero-add}
use Rattle.std.proofs.lemmas.List.{append-nil}
use Rattle.std.proofs.lemmas.Bool.{le-leb}
use Rattle.gp_base.specs.declared.limits.TheConstants.{DEEPEST_NESTING}
use Rattle.task_ast.specs.meaning.Tree.{Program}
use Rattle.task_parser.specs.declared.token.Token.{Token}
use Rattle.task_parser.specs.declared.halt.Halt.{Halt}
use Rattle.task_parser.specs.declared.halt.Halt.TheVariants.{Memory, Unexpected, TooDeep}
use Rattle.task_parser.specs.meaning.Words.{Placed, tokens_of}
use Rattle.task_parser.specs.inner.Reading.{◌>>=◌, unexpected}
use Rattle.task_parser.specs.meaning.Promise.{Stop}
use Rattle.task_parser.specs.inner.Laws.{Same, GoesBeyond, Took, Halted, Outcome, verdict}
use Rattle.task_parser.specs.meaning.Promise.{Within}
use Rattle.task_parser.specs.meaning.Expressions.{Text}
use Rattle.task_parser.specs.meaning.Programs.{program}
use Rattle.task_parser.specs.inner.ProgramReaders.{read_program}
use Rattle.task_parser.specs.inner.Gives.{Fails}
use Rattle.task_parser.specs.meaning.Promise.{Spelled, StandFor, Begins, CannotGoOn, NestsBeyond, StopFirst}
use Rattle.task_parser.specs.meaning.Answer.{IsFirstFault}
use Rattle.task_parser.specs.Answer.{Answers}
use Rattle.task_parser.specs.inner.WholeText.{fault_at, to_end, read_all, Exactly}
use Rattle.task_parser.proofs.Basics.{tokens-append, verdict-bind}
use Rattle.task_parser.proofs.ReadPrograms.{sound_program, complete_program}

finish : Program × List Token → Result Program Stop
finish x = to_end x.0 x.1

-- what reading gives on tokens of the grammar
pub read_spelled : (text : Text) (p : Program) (placed : List Placed) → Spelled text p placed
    → read_all text (tokens_of placed) ≡ verdict DEEPEST_NESTING placed [] (Ok p)
unfolding read_all finish
read_spelled text p placed h =
    ap (λ (l : List Token). read_program text DEEPEST_NESTING l >>= finish) (sym (append-nil (tokens_of placed)))
    ∙ ap (λ (r : Result (Program × List Token) Stop). r >>= finish)
    (complete_program text DEEPEST_NESTING h.height 0 placed p [] h.stands refl)
    ∙ verdict-bind (0 + DEEPEST_NESTING) placed [] ok finish
    ∙ ap (λ (l : ℕ). verdict l placed [] (Ok p)) (zero-add DEEPEST_NESTING)
  where
    ok : Result (Program × List Token) Stop
    ok = Ok (p, [])

-- tokens of the grammar are never unexpected
verdict_expects : {A : Type 0} (limit : ℕ) (placed : List Placed) (rest other : List Token) (v : A)
    → verdict limit placed rest (Ok v) ≡ unexpected other → ⊥
verdict_expects limit [] rest other v e = cc
verdict_expects {A = A} limit (p ∷ placed) rest other v e = go (leb p.nesting limit) e (verdict_expects limit placed rest other v)
  where
    go : (b : Bool) → cond b (verdict limit placed rest (Ok v)) (Err (record { deep = true; rest = p.token ∷ (tokens_of placed ++ rest) }))
        ≡ unexpected other → (verdict limit placed rest (Ok v) ≡ unexpected other → ⊥) → ⊥
    go true e next = next e
    go false e next = let d : true ≡ false = ap deep_of e in absurd cc
      where
        deep_of : Result A Stop → Bool
        deep_of (Ok v) = false
        deep_of (Err s) = s.deep

-- A front after which reading halts at the next token can't go on with it.
halts_there : (text : Text) (front : List Placed) (next : Token) (rest : List Token)
    → ((other : List Token) → Same (next ∷ rest) other → read_all text (tokens_of front ++ other) ≡ unexpected other)
    → CannotGoOn text front (next ∷ rest)
halts_there text front next rest again (other, same, begun) =
    verdict_expects DEEPEST_NESTING (other ++ begun.more) [] (next ∷ tokens_of begun.more) begun.p
    (sym (read_spelled text begun.p (other ++ begun.more) begun.spelled) ∙ ap (read_all text) line
    ∙ again (next ∷ tokens_of begun.more) refl)
  where
    line : tokens_of (other ++ begun.more) ≡ tokens_of front ++ (next ∷ tokens_of begun.more)
    line =
        tokens-append other begun.more ∙ ap (λ (l : List Token). l ++ tokens_of begun.more) same
        ∙ append_assoc (tokens_of front) (next ∷ []) (tokens_of begun.more)

halts_at_end : (text : Text) (front : List Placed) → read_all text (tokens_of front ++ []) ≡ unexpected [] → CannotGoOn text front []
halts_at_end text front again (p, other, same, spelled) =
    verdict_expects DEEPEST_NESTING other [] [] p
    (sym (read_spelled text p other spelled) ∙ ap (read_all text) (same ∙ sym (append-nil (tokens_of front))) ∙ again)

halts : (text : Text) (front : List Placed) (rest : List Token)
    → ((other : List Token) → Same rest other → read_all text (tokens_of front ++ other) ≡ unexpected other) → CannotGoOn text front rest
halts text front [] again = halts_at_end text front (again [] tt)
halts text front (next ∷ rest) again = halts_there text front next rest again

begins_with : (text : Text) (height : ℕ) (front more : List Placed) (p : Program) → program text height 0 (front ++ more) p
    → Begins text front
begins_with text height front more p h = record { more = more; p = p; spelled = record { height = height; stands = h } }

nests_beyond : (text : Text) (height : ℕ) (front : List Placed) (rest : List Token) (more : List Placed) (p : Program)
    → program text height 0 (front ++ more) p → GoesBeyond true DEEPEST_NESTING rest more → NestsBeyond text front rest
nests_beyond text height front [] more p h beyond = absurd beyond
nests_beyond text height front (t ∷ rest) [] p h beyond = absurd beyond
nests_beyond text height front (t ∷ rest) (next ∷ more) p h beyond =
    subst (λ (q : Placed). Begins text (front ++ q ∷ [])) is
    (begins_with text height (front ++ next ∷ []) more p
    (subst (λ (l : List Placed). program text height 0 l p) (sym (append_assoc front (next ∷ []) more)) h))
  where
    is : next ≡ record { token = t; nesting = suc DEEPEST_NESTING }
    is =
        ap (λ (k : Token). record { token = k; nesting = next.nesting }) beyond.0
        ∙ ap (λ (n : ℕ). record { token = t; nesting = n }) beyond.1

within_limit : (placed : List Placed) → Within (0 + DEEPEST_NESTING) placed → Within DEEPEST_NESTING placed
within_limit placed h = subst (λ (l : ℕ). Within l placed) (zero-add DEEPEST_NESTING) h

halted : (text : Text) (height : ℕ) (tokens : List Token) (deep : Bool) (rest : List Token)
    → Halted (0 + DEEPEST_NESTING) 0 (program text height) (read_program text DEEPEST_NESTING) tokens (record { deep = deep; rest = rest })
    → StopFirst text tokens (record { deep = deep; rest = rest })
unfolding read_all
halted text height tokens false rest h = record {
  front = h.used;
  parts = h.parts;
  within = within_limit h.used h.within;
  begins = begins_with text height h.used h.more h.value h.stands;
  fault = halts text h.used rest (λ other same. rw (h.again other same) refl);
}
halted text height tokens true rest h = record {
  front = h.used;
  parts = h.parts;
  within = within_limit h.used h.within;
  begins = begins_with text height h.used h.more h.value h.stands;
  fault =
      nests_beyond text height h.used rest h.more h.value h.stands
      (subst (λ (l : ℕ). GoesBeyond true l rest h.more) (zero-add DEEPEST_NESTING) h.beyond);
}

took : (text : Text) (height : ℕ) (tokens : List Token) (p : Program) (rest : List Token)
    → Took (0 + DEEPEST_NESTING) 0 (program text height) (read_program text DEEPEST_NESTING) tokens p rest
    → Exactly text tokens (to_end p rest)
unfolding read_all
took text height tokens p [] h = record {
  placed = h.used;
  same = h.parts ∙ append-nil (tokens_of h.used);
  within = within_limit h.used h.within;
  spelled = record { height = height; stands = h.stands };
}
took text height tokens p (t ∷ ts) h = record {
  front = h.used;
  parts = h.parts;
  within = within_limit h.used h.within;
  begins = begins_with text height h.used [] p (subst (λ (l : List Placed). program text height 0 l p) (sym (append-nil h.used)) h.stands);
  fault = halts_there text h.used t ts (λ other same. rw (h.again other same) (unexpected_next other same));
}
  where
    unexpected_next : (other : List Token) → Same (t ∷ ts) other → to_end p other ≡ unexpected other
    unexpected_next [] same = absurd same
    unexpected_next (y ∷ ys) same = refl

-- The program that all of the tokens stand for is read, or else the first fault.
read_exactly : (text : Text) (tokens : List Token) → Exactly text tokens (read_all text tokens)
unfolding read_all
read_exactly text tokens = go (read_program text DEEPEST_NESTING tokens) (sound_program text DEEPEST_NESTING 0 tokens)
  where
    go : (r : Result (Program × List Token) Stop)
        → Outcome (0 + DEEPEST_NESTING) 0 (program text (suc (suc DEEPEST_NESTING))) (read_program text DEEPEST_NESTING) tokens r
        → Exactly text tokens (r >>= λ x. to_end x.0 x.1)
    go (Ok (p, rest)) h = took text (suc (suc DEEPEST_NESTING)) tokens p rest h
    go (Err stop) h = halted text (suc (suc DEEPEST_NESTING)) tokens stop.deep stop.rest h

-- What stands for a program is read.
pub spelled_read : (text : Text) (tokens : List Token) (p : Program) → StandFor text tokens p → read_all text tokens ≡ Ok p
spelled_read text tokens p h = ap (read_all text) h.same ∙ read_spelled text p h.placed h.spelled ∙ fits h.placed h.within
  where
    ok : Result Program Stop
    ok = Ok p

    fits : (placed : List Placed) → Within DEEPEST_NESTING placed → verdict DEEPEST_NESTING placed [] ok ≡ ok
    fits [] h = refl
    fits (q ∷ placed) h = rw (le-leb q.nesting DEEPEST_NESTING h.0) (fits placed h.1)

-- Tokens stand for at most one program.
pub one_program : (text : Text) (tokens : List Token) (a b : Program) → StandFor text tokens a → StandFor text tokens b → a ≡ b
one_program text tokens a b h k = ok_is a b (read_all text tokens) (spelled_read text tokens a h) (spelled_read text tokens b k)
  where
    ok_is : (x y : Program) (r : Result Program Stop) → r ≡ Ok x → r ≡ Ok y → x ≡ y
    ok_is x y r e f = cc

pub exactly_at : (text : Text) (tokens : List Token) (r : Result Program Stop) → read_all text tokens ≡ r → Exactly text tokens r
exactly_at text tokens r e = subst (λ (s : Result Program Stop). Exactly text tokens s) e (read_exactly text tokens)

no_program : (text : Text) (tokens : List Token) (stop : Stop) (p : Program) → read_all text tokens ≡ Err stop → StandFor text tokens p → ⊥
no_program text tokens stop p e h = cc (e, spelled_read text tokens p h)

pub same_program : (text : Text) (tokens : List Token) (a b : Program) → read_all text tokens ≡ Ok a → StandFor text tokens b → a ≡ b
same_program text tokens a b e h = cc (e, spelled_read text tokens b h)

-- ---- what the parser answers

pub first_fault : (text : Text) (tokens : List Token) (halt : Halt) → Fails halt (read_all text tokens)
    → IsFirstFault text tokens (fault_at text halt)
first_fault text tokens Memory h = tt
first_fault text tokens (Unexpected rest) h = (rest.now, refl, exactly_at text tokens (Err (record { deep = false; rest = rest.now })) h)
first_fault text tokens (TooDeep rest) h = (rest.now, refl, exactly_at text tokens (Err (record { deep = true; rest = rest.now })) h)

pub no_answer : (text : Text) (tokens : List Token) (halt : Halt) (p : Program) → Fails halt (read_all text tokens) → StandFor text tokens p
    → Answers (Err (fault_at text halt)) p
no_answer text tokens Memory p h stands = tt
no_answer text tokens (Unexpected rest) p h stands = no_program text tokens (record { deep = false; rest = rest.now }) p h stands
no_answer text tokens (TooDeep rest) p h stands = no_program text tokens (record { deep = true; rest = rest.now }) p h stands
