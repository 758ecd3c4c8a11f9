-- What a parse of the tokens before a fault and one token more says of that token.
use Rattle.std.proofs.Common.{◌≡◌, ◌≢◌, ◌∙◌, ◌<◌, ◌≤◌, ◌+◌, ℕ, suc, Bool, ltb, true, false, List, [], ◌∷◌, ◌++◌, length, take, refl, sym, ap, subst, arith, append_assoc, length-append, below_more}
use Rattle.std.specs.List.{prefix_len, Contains}
use Rattle.std.proofs.lemmas.List.Elements.{All-push}
use Rattle.std.proofs.lemmas.Bool.Decides.{nat_tests}
use Rattle.std.proofs.lemmas.List.{append-nil, take_at, get_or_at, get_or_append_left}
use Rattle.gp_base.specs.declared.limits.TheConstants.{DEEPEST_NESTING}
use Rattle.task_ast.specs.meaning.Tree.{Program}
use Rattle.task_parser.specs.declared.token.Token.{Token}
use Rattle.task_parser.specs.declared.token.Kind.{Kind}
use Rattle.task_parser.specs.declared.token.Kind.TheVariants.{Num, Name, Reg, Quoted, Word, Mark}
use Rattle.task_parser.specs.declared.fault.ParseFault.TheVariants.{Unexpected, TooDeep}
use Rattle.task_parser.specs.meaning.Words.{Placed, tokens_of}
use Rattle.task_parser.specs.meaning.Expressions.{Text}
use Rattle.task_parser.specs.meaning.Promise.{Stop, Spelled, StandFor, StopFirst, FaultThere}
use Rattle.task_parser.specs.meaning.Answer.{offset_of, IsFirstFault}
use Rattle.task_parser.specs.Pieces.{least_length}
use Rattle.task_parser.specs.Lexing.{AreTokensOf}
use Rattle.task_parser.specs.Splitting.{AreInOrder}
use Rattle.task_parser.proofs.Basics.{tokens-append}
use Rattle.task_parser.proofs.OneReading.{one_fault}
use Rattle.text_places.specs.Expected.{token_past, GoesOn, IsFront, AreExpected, kind_of}

-- the token is the last one, or stands before it
data Stands (a : List Token) (x : Token) (b : List Token) (t : Token) (ts : List Token) : Type 0 where
  last : ts ≡ [] → t ≡ x → b ≡ a → Stands a x b t ts
  before : (more : List Token) → ts ≡ more ++ x ∷ [] → a ≡ b ++ t ∷ more → Stands a x b t ts

stands_after : {a : List Token} {x : Token} {b : List Token} {t : Token} {ts : List Token} (y z : Token) → y ≡ z → Stands a x b t ts
    → Stands (y ∷ a) x (z ∷ b) t ts
stands_after y z e (last f g h) = last f g (cc)
stands_after y z e (before more f g) = before more f (cc)

stands : (a : List Token) (x : Token) (b : List Token) (t : Token) (ts : List Token) → a ++ x ∷ [] ≡ b ++ t ∷ ts → Stands a x b t ts
stands [] x [] t ts e = last (cc) (cc) refl
stands [] x (z ∷ []) t ts e = let f : [] ≡ t ∷ ts = cc in absurd (cc)
stands [] x (z ∷ w ∷ b) t ts e = let f : [] ≡ w ∷ (b ++ t ∷ ts) = cc in absurd (cc)
stands (y ∷ a) x [] t ts e = before a (cc) (cc)
stands (y ∷ a) x (z ∷ b) t ts e = stands_after y z (cc) (stands a x b t ts (cc))

-- a program that is spelled by tokens begins with them
pub stood : (text : Text) (front : List Token) (kind : Kind) (p : Program) → StandFor text (front ++ token_past text kind ∷ []) p
    → GoesOn text front kind
stood text front kind p h = record {
  placed = h.placed;
  same = sym h.same;
  begins = record { more = []; p = p; spelled = subst (Spelled text p) (sym (append-nil h.placed)) h.spelled };
}

-- where the fault stands depends on the next token alone
fault_again : (deep : Bool) (text : Text) (f : List Placed) (t : Token) (ts us : List Token) → FaultThere deep text f (t ∷ ts)
    → FaultThere deep text f (t ∷ us)
fault_again false text f t ts us h = h
fault_again true text f t ts us h = h

module _ (text : Text) (tokens front : List Token) (kind : Kind) (first : IsFront text tokens front) where
  -- no token before the first fault is at fault
  earlier : (deep : Bool) (t : Token) (more ts : List Token)
      → (h : StopFirst text (front ++ token_past text kind ∷ []) (record { deep = deep; rest = t ∷ ts }))
      → front ≡ tokens_of h.front ++ t ∷ more → ⊥
  earlier deep t more ts h e =
      let again : StopFirst text tokens (record { deep = deep; rest = t ∷ (more ++ first.rest) }) = record {
        front = h.front;
        parts = first.parts ∙ ap (λ (l : List Token). l ++ first.rest) e ∙ append_assoc (tokens_of h.front) (t ∷ more) first.rest;
        within = h.within;
        begins = h.begins;
        fault = fault_again deep text h.front t ts (more ++ first.rest) h.fault;
      } in
      let same = one_fault text tokens _ _ again first.stops in
      omega (arith, ap (λ (s : Stop). length s.rest) same, length-append more first.rest)

  -- a fault at the token means that no program goes on with it
  pub at_past : (at : ℕ) → IsFirstFault text (front ++ token_past text kind ∷ []) (Unexpected at) → at ≡ length text + 1
      → GoesOn text front kind → ⊥
  at_past at fault e going = go fault.0 fault.1 fault.2
    where
      go : (rest : List Token) → at ≡ offset_of text rest
          → StopFirst text (front ++ token_past text kind ∷ []) (record { deep = false; rest = rest }) → ⊥
      go [] is h = absurd (omega arith)
      go (t ∷ ts) is h = elim (stands front (token_past text kind) (tokens_of h.front) t ts h.parts) [
        | last f g k ↦ h.fault (going.placed, going.same ∙ cc, going.begins)
        | before more f k ↦ earlier false t more ts h k
      ]

  -- a fault elsewhere means that some program does
  pub elsewhere : (at : ℕ) → IsFirstFault text (front ++ token_past text kind ∷ []) (Unexpected at) → at ≢ length text + 1
      → GoesOn text front kind
  elsewhere at fault other = go fault.0 fault.1 fault.2
    where
      go : (rest : List Token) → at ≡ offset_of text rest
          → StopFirst text (front ++ token_past text kind ∷ []) (record { deep = false; rest = rest }) → GoesOn text front kind
      go [] is h = record { placed = h.front; same = sym (h.parts ∙ append-nil (tokens_of h.front)); begins = h.begins }
      go (t ∷ ts) is h = elim (stands front (token_past text kind) (tokens_of h.front) t ts h.parts) [
        | last f g k ↦ absurd (other (is ∙ ap (λ (x : Token). x.from) g))
        | before more f k ↦ absurd (earlier false t more ts h k)
      ]

  -- and so does one that nests too deep
  pub beyond : (at : ℕ) → IsFirstFault text (front ++ token_past text kind ∷ []) (TooDeep at) → GoesOn text front kind
  beyond at fault = go fault.0 fault.2
    where
      go : (rest : List Token) → StopFirst text (front ++ token_past text kind ∷ []) (record { deep = true; rest = rest })
          → GoesOn text front kind
      go [] h = absurd h.fault
      go (t ∷ ts) h = elim (stands front (token_past text kind) (tokens_of h.front) t ts h.parts) [
        | last f g k ↦ record {
          placed = h.front ++ record { token = t; nesting = suc DEEPEST_NESTING } ∷ [];
          same = tokens-append h.front (record { token = t; nesting = suc DEEPEST_NESTING } ∷ []) ∙ cc;
          begins = h.fault;
        }
        | before more f k ↦ absurd (earlier true t more ts h k)
      ]

-- ---- the tokens before the first fault are those that begin before it

least_some : (kind : Kind) → 1 ≤ least_length kind
least_some (Num n) = omega arith
least_some Name = omega arith
least_some Reg = omega arith
least_some Quoted = omega arith
least_some (Word n) = omega arith
least_some (Mark n) = omega arith

-- tokens in order stand before what is after them
above : (text : Text) (front rest : List Token) (place : ℕ) → place ≤ length text → AreInOrder place (front ++ rest)
    → AreTokensOf text (front ++ rest) → place ≤ offset_of text rest
above text [] [] place few order spans = few
above text [] (t ∷ ts) place few order spans = order.0
above text (x ∷ front) rest place few order spans =
    let here = spans 0 x (omega arith) in
    let later = above text front rest x.to here.within order.1 (λ k d h. spans (suc k) d (omega arith)) in
    omega (arith, order.0, here.whole, later)

before_len : (text : Text) (front rest : List Token) (place at : ℕ) → AreInOrder place (front ++ rest)
    → AreTokensOf text (front ++ rest) → at ≡ offset_of text rest
    → prefix_len (λ (token : Token). ltb token.from at) (front ++ rest) ≡ length front
before_len text [] [] place at order spans e = refl
before_len text [] (t ∷ ts) place at order spans e =
    let no : ltb t.from at ≡ false = grind (arith, nat_tests) in
    rw no refl
before_len text (x ∷ front) rest place at order spans e =
    let here = spans 0 x (omega arith) in
    let later = above text front rest x.to here.within order.1 (λ k d h. spans (suc k) d (omega arith)) in
    let least = least_some x.kind in
    let low : x.from < at = omega (arith, here.whole, later, e, least) in
    let yes : ltb x.from at ≡ true = grind (arith, nat_tests) in
    rw yes (omega (arith, before_len text front rest x.to at order.1 (λ k d h. spans (suc k) d (omega arith)) e))

pub front_is : (text : Text) (tokens : List Token) (at : ℕ) → IsFirstFault text tokens (Unexpected at) → AreInOrder 0 tokens
    → AreTokensOf text tokens → IsFront text tokens (take (prefix_len (λ (token : Token). ltb token.from at) tokens) tokens)
front_is text tokens at h order spans =
    let rest = h.0 in
    let stop = h.2 in
    let f = tokens_of stop.front in
    let len : prefix_len (λ (token : Token). ltb token.from at) tokens ≡ length f =
    ap (λ (l : List Token). prefix_len (λ (token : Token). ltb token.from at) l) stop.parts
    ∙ before_len text f rest 0 at (subst (AreInOrder 0) stop.parts order) (subst (AreTokensOf text) stop.parts spans) h.1 in
    let same : take (prefix_len (λ (token : Token). ltb token.from at) tokens) tokens ≡ f =
    ap (λ n. take n tokens) len ∙ ap (λ (l : List Token). take (length f) l) stop.parts ∙ take_at f rest (length f) refl in
    subst (IsFront text tokens) (sym same) (record { rest = rest; parts = stop.parts; stops = stop })

-- ---- one kind after the other

pub none_yet : (text : Text) (front : List Token) → AreExpected text front 0 []
none_yet text front = record { each = λ k d h. absurd (omega arith); all = λ n h g. absurd (omega arith) }

Contains-more : (kinds : List Kind) (kind x : Kind) → Contains kinds x → Contains (kinds ++ kind ∷ []) x
Contains-more kinds kind x h =
    (h.0, omega (arith, h.1, length-append kinds (kind ∷ [])), get_or_append_left kinds (kind ∷ []) x h.0 h.1 ∙ h.2)

Contains-last : (kinds : List Kind) (x : Kind) → Contains (kinds ++ x ∷ []) x
Contains-last kinds x = (length kinds, omega (arith, length-append kinds (x ∷ [])), get_or_at kinds x [] x (length kinds) refl)

pub one_more : (text : Text) (front : List Token) (number : ℕ) (kinds : List Kind) → AreExpected text front number kinds
    → GoesOn text front (kind_of number) → AreExpected text front (number + 1) (kinds ++ kind_of number ∷ [])
one_more text front number kinds h goes = record {
  each = All-push (GoesOn text front) kinds (kind_of number) h.each goes;
  all = below_more (λ n. GoesOn text front (kind_of n) → Contains (kinds ++ kind_of number ∷ []) (kind_of n)) number
      (λ n low g. Contains-more kinds (kind_of number) (kind_of n) (h.all n low g))
      (λ g. Contains-last kinds (kind_of number));
}

pub no_more : (text : Text) (front : List Token) (number : ℕ) (kinds : List Kind) → AreExpected text front number kinds
    → (GoesOn text front (kind_of number) → ⊥) → AreExpected text front (number + 1) kinds
no_more text front number kinds h stays = record {
  each = h.each;
  all = below_more (λ n. GoesOn text front (kind_of n) → Contains kinds (kind_of n)) number h.all (λ g. absurd (stays g));
}
