-- A program that bytes stand for is shaped. A form yields only values of which something holds, where no number is
-- negative (Yields): one lemma for each word of the grammar. With these, by recursion on the height, each statement and
-- block is shaped, and so are heads, tasks and programs. In a lexing no number is negative.
use Prim.Native.String.{String}
use Rattle.std.proofs.Common.{◌≡◌, ℕ, zero, suc, Bool, true, false, List, [], ◌∷◌, ◌++◌, Option, Some, None, ℤ, refl, sym, ap, subst, ◌∙◌, inl, inr}
use Rattle.std.specs.Prelude.{◌&&◌}
use Rattle.std.specs.List.{list_all}
use Rattle.std.proofs.lemmas.Bool.{and_parts}
use Rattle.std.proofs.lemmas.List.Folds.{list_all-append}
use Rattle.task_ast.specs.meaning.Tree.{Stmt, At, Block, Nothing, Then, block, TaskText}
use Rattle.task_ast.specs.Shaped.{is_natural, is_shaped_head, is_data, all_data, is_shaped_what, is_shaped_stmt, is_shaped_block, is_shaped}
use Rattle.task_parser.specs.declared.token.Token.{Token}
use Rattle.task_parser.specs.declared.token.Kind.{Kind}
use Rattle.task_parser.specs.declared.token.Kind.TheVariants.{Num}
use Rattle.task_parser.specs.meaning.Words.{Placed, Form, ◌▸◌, Made, ◌∣◌, many, perhaps, Opened, first_of, second_of, tokens_of}
use Rattle.task_parser.specs.TokenTable.{IsToken}
use Rattle.task_parser.specs.Splitting.{Splits, nothing, gap, token}
use Rattle.task_parser.specs.meaning.Expressions.{Text}
use Rattle.task_parser.specs.meaning.Expressions as forms
use Rattle.task_parser.specs.inner.ExpressionReaders.{number_in}
use Rattle.task_parser.specs.meaning.Statements.{block_of, else_block, data_statement, statement}
use Rattle.task_parser.specs.inner.StatementReaders.{or_nothing}
use Rattle.task_parser.specs.meaning.Programs.{head, task, program}
use Rattle.task_parser.specs.ShapedLaw.{SpelledIsShaped}
use Rattle.task_parser.proofs.Basics.{tokens-append}
use Rattle.task_parser.proofs.LexSplits.{lexings_split}

both_true : (a b : Bool) → a ≡ true → b ≡ true → (a && b) ≡ true
both_true true b h k = k
both_true false b h k = h

-- ---- no number in a lexing is negative

-- a number has a natural value, and what is no number counts as 0
abbrev has_natural : Token → Bool
has_natural t = is_natural (number_in t.kind)

natural_kind : (kind : Kind) (bytes : List ℕ) → IsToken kind bytes → is_natural (number_in kind) ≡ true
natural_kind (Num n) bytes is = ap is_natural is.1
natural_kind _ bytes is = refl

natural_tokens : {before text left : List ℕ} {tokens : List Token} → Splits before text tokens left → list_all has_natural tokens ≡ true
natural_tokens nothing = refl
natural_tokens (gap skipped is splits) = natural_tokens splits
natural_tokens (token kind bytes is range longest splits) = both_true _ _ (natural_kind kind bytes is) (natural_tokens splits)

abbrev Natural : List Placed → Type 0
Natural placed = list_all has_natural (tokens_of placed) ≡ true

natural_parts : (a b : List Placed) → Natural (a ++ b) → Natural a × Natural b
natural_parts a b h =
    and_parts _ _ (sym (list_all-append has_natural (tokens_of a) (tokens_of b)) ∙ ap (list_all has_natural) (sym (tokens-append a b)) ∙ h)

-- ---- what holds of all values of a form; one lemma for each word of the grammar

-- G holds of what a P stands for, where no number in it is negative
record Yields {A : Type 0} (P : Form A) (G : A → Type 0) : Type 0 where
  all : (depth : ℕ) (placed : List Placed) (x : A) → Natural placed → P depth placed x → G x

-- what follows from what holds of all
so : {A : Type 0} {P : Form A} {G H : A → Type 0} → Yields P G → ((x : A) → G x → H x) → Yields P H
so h f = record { all = λ depth placed x n s. f x (h.all depth placed x n s) }

any : {A : Type 0} {P : Form A} {G : A → Type 0} → ((x : A) → G x) → Yields P G
any f = record { all = λ depth placed x n s. f x }

made : {A B : Type 0} {make : A → B} {P : Form A} {G : B → Type 0} → Yields P (λ x. G (make x)) → Yields (Made make P) G
made {G = G} h = record { all = λ depth placed x n s. subst G (sym s.is) (h.all depth placed s.from n s.stands) }

-- the second is known with what holds of the first
both : {A B : Type 0} {P : Form A} {Q : Form B} {G : A × B → Type 0} (H : A → Type 0) → Yields P H
    → Yields Q (λ y. (x : A) → H x → G (x, y)) → Yields (P ▸ Q) G
both H h k = record {
  all = λ depth placed x n s.
      let ns = natural_parts s.front s.back (subst Natural s.parts n) in
      k.all depth s.back x.1 ns.1 s.second x.0 (h.all depth s.front x.0 ns.0 s.first);
}

-- only what is first counts, or only what is second
left : {A B : Type 0} {P : Form A} {Q : Form B} {G : A × B → Type 0} → Yields P (λ x. (y : B) → G (x, y)) → Yields (P ▸ Q) G
left {B = B} {G = G} h = both (λ x. (y : B) → G (x, y)) h (any (λ y x g. g y))

right : {A B : Type 0} {P : Form A} {Q : Form B} {G : A × B → Type 0} → Yields Q (λ y. (x : A) → G (x, y)) → Yields (P ▸ Q) G
right h = both (λ x. Unit {0}) (any (λ x. tt)) (so h (λ y g x u. g x))

-- a mark counts for nothing, after or before
before : {A B : Type 0} {P : Form A} {Q : Form B} {G : A → Type 0} → Yields P G → Yields (Made first_of (P ▸ Q)) G
before h = made (left (so h (λ x g y. g)))

after : {A B : Type 0} {P : Form A} {Q : Form B} {G : A → Type 0} → Yields P G → Yields (Made second_of (Q ▸ P)) G
after h = made (right (so h (λ y g x. g)))

either : {A : Type 0} {P Q : Form A} {G : A → Type 0} → Yields P G → Yields Q G → Yields (P ∣ Q) G
either {A = A} {P = P} {Q = Q} {G = G} h k = record { all = go }
  where
    go : (depth : ℕ) (placed : List Placed) (x : A) → Natural placed → (P ∣ Q) depth placed x → G x
    go depth placed x n (inl s) = h.all depth placed x n s
    go depth placed x n (inr s) = k.all depth placed x n s

every : {A : Type 0} {P : Form A} {G : A → Type 0} (T : List A → Type 0) → T [] → ((x : A) (xs : List A) → G x → T xs → T (x ∷ xs))
    → Yields P G → Yields (many P) T
every {A = A} {P = P} T none more h = record { all = go }
  where
    go : (depth : ℕ) (placed : List Placed) (xs : List A) → Natural placed → many P depth placed xs → T xs
    go depth placed [] n s = none
    go depth placed (x ∷ xs) n s =
        let ns = natural_parts s.0 s.1 (subst Natural s.2 n) in
        more x xs (h.all depth s.0 x ns.0 s.3) (go depth s.1 xs ns.1 s.4)

all_pass : {A : Type 0} {P : Form A} (test : A → Bool) → Yields P (λ x. test x ≡ true) → Yields (many P) (λ xs. list_all test xs ≡ true)
all_pass test h = every (λ xs. list_all test xs ≡ true) refl (λ x xs g t. both_true _ _ g t) h

if_given : {A : Type 0} {P : Form A} {G : A → Type 0} (T : Option A → Type 0) → T None → ((x : A) → G x → T (Some x)) → Yields P G
    → Yields (perhaps P) T
if_given {A = A} {P = P} T none given h = record { all = go }
  where
    go : (depth : ℕ) (placed : List Placed) (x : Option A) → Natural placed → perhaps P depth placed x → T x
    go depth placed None n s = none
    go depth placed (Some x) n s = given x (h.all depth placed x n s)

opened : {A : Type 0} {text : String} {P : Form A} {G : A → Type 0} → Yields P G → Yields (Opened text P) G
opened h = record { all = λ depth placed x n s. h.all (suc depth) s.inner x (and_parts _ _ (subst Natural s.parts n)).1 s.stands }

-- ---- statements and blocks

-- what holds of a block where something holds of its statements
record Blocks (S : Stmt → Type 0) (T : Block → Type 0) : Type 0 where
  none : T Nothing
  more : (s : Stmt) (b : Block) → S s → T b → T (Then s b)

module _ {S : Stmt → Type 0} {T : Block → Type 0} {P : Form Stmt} (blocks : Blocks S T) (h : Yields P S) where
  body : Yields (Made block (many P)) T
  body = made (every (λ xs. T (block xs)) blocks.none (λ s xs g t. blocks.more s (block xs) g t) h)

  inner : Yields (block_of P) T
  inner = before (opened body)

  otherwise : Yields (else_block P) T
  otherwise = made (if_given (λ b. T (or_nothing b)) blocks.none (λ b t. t) (after inner))

abbrev IsShapedStmt : Stmt → Type 0
IsShapedStmt s = is_shaped_stmt s ≡ true

abbrev IsShapedBlock : Block → Type 0
IsShapedBlock b = is_shaped_block b ≡ true

abbrev IsDataStmt : Stmt → Type 0
IsDataStmt (At line w) = (is_data w ≡ true) × (is_shaped_what w ≡ true)

abbrev IsDataBlock : Block → Type 0
IsDataBlock b = (all_data b && is_shaped_block b) ≡ true

shaped_blocks : Blocks IsShapedStmt IsShapedBlock
shaped_blocks = record { none = refl; more = λ s b g t. both_true _ _ g t }

data_blocks : Blocks IsDataStmt IsDataBlock
data_blocks = record { none = refl; more = more }
  where
    more : (s : Stmt) (b : Block) → IsDataStmt s → IsDataBlock b → IsDataBlock (Then s b)
    more (At line w) b g t = let parts = and_parts _ _ t in both_true _ _ (both_true _ _ g.0 parts.0) (both_true _ _ g.1 parts.1)

data_shaped : (s : Stmt) → IsDataStmt s → IsShapedStmt s
data_shaped (At line w) g = g.1

data_yields : (text : Text) (height : ℕ) → Yields (data_statement text height) IsDataStmt
data_yields text zero = record { all = λ depth placed x n s. absurd s }
data_yields text (suc height) =
    let d = data_yields text height in
    either (made (any (λ x. (refl, refl))))
    (either (made (any (λ x. (refl, refl))))
    (either (made (any (λ x. (refl, refl))))
    (either (made (any (λ x. (refl, refl))))
    (made (both (λ x. IsDataBlock x.1) (right (so (inner data_blocks d) (λ b t x. t)))
    (so (otherwise data_blocks d) (λ b t x u. (refl, both_true _ _ u t))))))))

statements_yield : (text : Text) (height : ℕ) → Yields (statement text height) IsShapedStmt
statements_yield text zero = record { all = λ depth placed x n s. absurd s }
statements_yield text (suc height) =
    let h = statements_yield text height in
    either
    (either (made (any (λ x. refl)))
    (either (made (right (so (inner shaped_blocks h) (λ b t x. t))))
    (either (made (both (λ x. IsShapedBlock x.1) (right (so (inner shaped_blocks h) (λ b t x. t)))
    (so (otherwise shaped_blocks h) (λ b t x u. both_true _ _ u t))))
    (either (made (any (λ x. refl)))
    (either (made (any (λ x. refl)))
    (either (made (any (λ x. refl)))
    (either (made (any (λ x. refl)))
    (either (made (any (λ x. refl)))
    (made (any (λ x. refl)))))))))))
    (so (data_yields text (suc height)) data_shaped)

-- ---- heads, tasks and programs

number : {G : ℤ → Type 0} → ((value : ℤ) → is_natural value ≡ true → G value) → Yields forms.number G
number {G = G} f = record {
  all = λ depth placed value n s.
      f value (ap (λ (kind : Kind). is_natural (number_in kind)) (sym s.1.passes) ∙ (and_parts _ _ (subst Natural s.1.alone n)).0);
}

head_yields : (text : Text) → Yields (head text) (λ h. is_shaped_head h ≡ true)
head_yields text =
    either (made (before (before (right (number (λ t n x. n))))))
    (either (made (before (before (right (number (λ t n x. n))))))
    (either (made (before (left (left (before (before (right (number (λ t n x y z. n)))))))))
    (made (before (left (before (before (right (number (λ t n x y. n))))))))))

abbrev shaped_task : TaskText → Bool
shaped_task t = is_shaped_block t.body

task_yields : (text : Text) (height : ℕ) → Yields (task text height) (λ t. shaped_task t ≡ true)
task_yields text height = made (before (right (so (body shaped_blocks (statements_yield text height)) (λ b t x. t))))

program_yields : (text : Text) (height : ℕ) → Yields (program text height) (λ p. is_shaped p ≡ true)
program_yields text height =
    let t = task_yields text height in
    made (both (λ hs. list_all is_shaped_head hs ≡ true) (all_pass is_shaped_head (head_yields text))
    (made (both (λ x. shaped_task x ≡ true) t (so (all_pass shaped_task t) (λ xs h x g hs u. both_true _ _ u (both_true _ _ g h))))))

pub spelled_is_shaped : SpelledIsShaped
spelled_is_shaped text p h =
    let s = h.stands in
    let natural : Natural s.placed = ap (list_all has_natural) (sym s.same) ∙ natural_tokens (lexings_split text h.tokens h.lexes) in
    (program_yields text s.spelled.height).all 0 s.placed p natural s.spelled.stands
