-- Tests by lists of classes: what excludes or covers what is computed.
use Prim.Native.String.{String}
use Rattle.std.proofs.Common.{◌≡◌, ℕ, Bool, true, false, cond, List, [], ◌∷◌, nat_eq, ◌||◌, ◌+◌, ◌-◌, ◌≤◌, ◌<◌, min, not, ◌&&◌, pos, suc, zero, leb, length, codes, refl, sym, ap, subst, ◌∙◌, ◌⊎◌, inl, inr, arith}
use Rattle.std.proofs.lemmas.Bool.{eqb-true, eq-eqb, leb-true, leb-false, le-leb, lt-leb}
use Rattle.std.proofs.Math.Nat.{min-le_right}
use Rattle.task_parser.specs.declared.token.Token.{Token}
use Rattle.task_parser.specs.inner.Classes.{class, holds, among}
use Rattle.task_parser.specs.declared.token.Kind.{Kind}
use Rattle.task_parser.specs.declared.token.Kind.TheVariants.{Num, Name, Reg, Quoted, Word, Mark}
use Rattle.task_parser.specs.declared.lexer.Piece.{Piece}
use Rattle.task_parser.specs.declared.lexer.Piece.TheVariants.{Take}
use Rattle.task_parser.specs.meaning.Pieces.{piece_of}
use Rattle.task_parser.specs.meaning.Words.{IsWritten}
use Rattle.task_parser.proofs.Exact.{Covers, Apart, no_token}

-- no class of the first is in the second
abbrev pub disjoint : List ℕ → List ℕ → Bool
disjoint [] b = true
disjoint (n ∷ a) b = cond (holds n b) false (disjoint a b)

abbrev pub subset : List ℕ → List ℕ → Bool
subset [] b = true
subset (n ∷ a) b = cond (holds n b) (subset a b) false

pub holds_cases : (n m : ℕ) (ms : List ℕ) → holds n (m ∷ ms) ≡ true → (n ≡ m) ⊎ (holds n ms ≡ true)
holds_cases n m ms e = go (nat_eq n m) refl e
  where
    go : (b : Bool) → nat_eq n m ≡ b → (b || holds n ms) ≡ true → (n ≡ m) ⊎ (holds n ms ≡ true)
    go true h e = inl (eqb-true n m h)
    go false h e = inr e

apart_lists : (a b : List ℕ) → disjoint a b ≡ true → (n : ℕ) → holds n a ≡ true → holds n b ≡ false
apart_lists [] b d n e = absurd cc
apart_lists (m ∷ a) b d n e = go (holds m b) refl d (holds_cases n m a e) (λ d h. apart_lists a b d n h)
  where
    go : (c : Bool) → holds m b ≡ c → cond c false (disjoint a b) ≡ true → (n ≡ m) ⊎ (holds n a ≡ true)
        → (disjoint a b ≡ true → holds n a ≡ true → holds n b ≡ false) → holds n b ≡ false
    go true h d o next = absurd cc
    go false h d (inl is) next = rw is h
    go false h d (inr in_a) next = next d in_a

covers_lists : (a b : List ℕ) → subset a b ≡ true → (n : ℕ) → holds n a ≡ true → holds n b ≡ true
covers_lists [] b d n e = absurd cc
covers_lists (m ∷ a) b d n e = go (holds m b) refl d (holds_cases n m a e) (λ d h. covers_lists a b d n h)
  where
    go : (c : Bool) → holds m b ≡ c → cond c (subset a b) false ≡ true → (n ≡ m) ⊎ (holds n a ≡ true)
        → (subset a b ≡ true → holds n a ≡ true → holds n b ≡ true) → holds n b ≡ true
    go false h d o next = absurd cc
    go true h d (inl is) next = rw is h
    go true h d (inr in_a) next = next d in_a

pub apart : (a b : List ℕ) → disjoint a b ≡ true → Apart (among a) (among b)
apart a b d t e = apart_lists a b d (class t.kind) e

pub covers : (a b : List ℕ) → subset a b ≡ true → Covers (among a) (among b)
covers a b d t e = covers_lists a b d (class t.kind) e

pub none_apart : (first : Token → Bool) → Apart first no_token
none_apart first t e = refl

pub none_covered : (test : Token → Bool) → Covers no_token test
none_covered test t e = absurd cc

-- ---- a token of each class

abbrev pub mark_or_word : Bool → ℕ → Kind
mark_or_word true n = Mark (n - 300)
mark_or_word false n = Word (n - 4)

abbrev pub kind_of : ℕ → Kind
kind_of zero = Num (pos 0)
kind_of (suc zero) = Name
kind_of (suc (suc zero)) = Reg
kind_of (suc (suc (suc zero))) = Quoted
kind_of (suc (suc (suc (suc w)))) = mark_or_word (leb 300 (4 + w)) (4 + w)

class_kind : (n : ℕ) → class (kind_of n) ≡ n
class_kind zero = refl
class_kind (suc zero) = refl
class_kind (suc (suc zero)) = refl
class_kind (suc (suc (suc zero))) = refl
class_kind (suc (suc (suc (suc w)))) = go (leb 300 (4 + w)) refl ∙ omega arith
  where
    go : (b : Bool) → leb 300 (4 + w) ≡ b → class (mark_or_word b (4 + w)) ≡ 4 + w
    go true e = let le : 300 ≤ 4 + w = leb-true 300 (4 + w) e in omega arith
    go false e = let lt : 4 + w < 300 = leb-false 300 (4 + w) e in omega arith

-- a token of the class
pub token_of : ℕ → Token
token_of n = record { kind = kind_of n; from = 0; to = 0; line = 0 }

pub of_class : (n : ℕ) (t : Token) → among (n ∷ []) t ≡ true → class t.kind ≡ n
of_class n t h = go (holds_cases (class t.kind) n [] h)
  where
    go : (class t.kind ≡ n) ⊎ (holds (class t.kind) [] ≡ true) → class t.kind ≡ n
    go (inl is) = is
    go (inr h) = absurd cc

pub token_among : (n : ℕ) (ns : List ℕ) → among (n ∷ ns) (token_of n) ≡ true
unfolding token_of
token_among n ns = rw (class_kind n, eq-eqb n n refl) refl

-- ---- the kind of a class

-- the class has one kind alone: it is neither that of all numbers nor that of all words from 295 on
abbrev pub usual : ℕ → Bool
usual n = not (nat_eq n 0) && not (nat_eq n 299)

kind_from : (x : ℕ) → kind_of (4 + x) ≡ mark_or_word (leb 300 (4 + x)) (4 + x)
kind_from x = subst (λ (n : ℕ). kind_of n ≡ mark_or_word (leb 300 (4 + x)) (4 + x)) (sym is) refl
  where
    is : 4 + x ≡ suc (suc (suc (suc x)))
    is = omega arith

pub kind_back : (kind : Kind) → usual (class kind) ≡ true → kind_of (class kind) ≡ kind
kind_back (Num n) u = absurd cc
kind_back Name u = refl
kind_back Reg u = refl
kind_back Quoted u = refl
kind_back (Word w) u = go (min w 295) refl u
  where
    go : (x : ℕ) → min w 295 ≡ x → usual (4 + x) ≡ true → kind_of (4 + x) ≡ Word w
    go x e u = cases (leb 295 x) refl
      where
        cases : (b : Bool) → leb 295 x ≡ b → kind_of (4 + x) ≡ Word w
        cases true h =
            let is : x ≡ 295 = omega (arith, leb-true 295 x h, min-le_right w 295, e) in
            let not_so : usual 299 ≡ true = subst (λ (y : ℕ). usual (4 + y) ≡ true) is u in
            absurd cc
        cases false h =
            let below : x < 295 = leb-false 295 x h in
            rw (kind_from x, lt-leb 300 (4 + x) (omega (arith, below))) (ap Word (omega (arith, below, e)))
kind_back (Mark m) u = subst (λ (n : ℕ). kind_of n ≡ Mark m) (sym is) go
  where
    is : 300 + m ≡ 4 + (296 + m)
    is = omega arith

    go : kind_of (4 + (296 + m)) ≡ Mark m
    go = rw (kind_from (296 + m), le-leb 300 (4 + (296 + m)) (omega arith)) (ap Mark (omega arith))

-- ---- what is written so, by its class

-- the tokens that pass the test are those of these classes
pub record Alike (test : Token → Type 0) (classes : List ℕ) : Type 0 where
  pub to : (t : Token) → test t → among classes t ≡ true
  pub from : (t : Token) → among classes t ≡ true → test t

pub alike_kind : (n : ℕ) → usual n ≡ true → Alike (λ t. t.kind ≡ kind_of n) (n ∷ [])
alike_kind n u = record { to = to; from = from }
  where
    to : (t : Token) → t.kind ≡ kind_of n → among (n ∷ []) t ≡ true
    to t e = rw (e, class_kind n, eq-eqb n n refl) refl

    from : (t : Token) → among (n ∷ []) t ≡ true → t.kind ≡ kind_of n
    from t h =
        let is : class t.kind ≡ n = of_class n t h in
        sym (kind_back t.kind (ap usual is ∙ u)) ∙ ap kind_of is

-- the text is the word or the mark of this class
abbrev pub IsOf : String → ℕ → Type 0
IsOf text n = ◌≡◌ {A = Piece × Bool} (piece_of (codes text), usual n) (Take (kind_of n) (length (codes text)), true)

pub alike_written : (text : String) (n : ℕ) → IsOf text n → Alike (IsWritten text) (n ∷ [])
alike_written text n e = record { to = to; from = from }
  where
    piece : piece_of (codes text) ≡ Take (kind_of n) (length (codes text))
    piece = ap (λ (p : Piece × Bool). p.0) e

    kinds : Alike (λ t. t.kind ≡ kind_of n) (n ∷ [])
    kinds = alike_kind n (ap (λ (p : Piece × Bool). p.1) e)

    to : (t : Token) → IsWritten text t → among (n ∷ []) t ≡ true
    to t h = kinds.to t (taken (sym h ∙ piece))
      where
        taken : {a b : Kind} {m : ℕ} → Take a m ≡ Take b m → a ≡ b
        taken e = cc

    from : (t : Token) → among (n ∷ []) t ≡ true → IsWritten text t
    from t h = piece ∙ ap (λ (k : Kind). Take k (length (codes text))) (sym (kinds.from t h))
