-- Expressions are read exactly.
use Prim.Native.String.{String}
use Rattle.std.proofs.Common.{◌≡◌, ℕ, zero, suc, true, List, [], ◌∷◌, Option, Some, None, option_map, refl, inl, inr}
use Rattle.task_ast.specs.declared.tree.Op.{Op}
use Rattle.task_ast.specs.declared.tree.Op.TheVariants.{Or, And, Eq, Ne, Lt, Le, Gt, Ge, Add, Sub, Mul, Div, Rem}
use Rattle.task_ast.specs.meaning.Tree.{Expr, Num, Reg, Me, Rows, Neg, Not}
use Rattle.task_parser.specs.declared.classes.TheConstants.{NUM, NAME, REG, AND, OR, NOT, SELF, ROWS, OPEN_BRACKET, CLOSE_BRACKET, OPEN_PAREN, CLOSE_PAREN, COMMA, EQ, NE, LT, LE, GT, GE, ADD, SUB, MUL, DIV, REM}
use Rattle.task_parser.specs.inner.Classes.{among}
use Rattle.task_parser.specs.meaning.Words.{Form, ◌▸◌, ◌∣◌, Made, many, perhaps, Opened, the, ◌◂◌, preceded, first_of}
use Rattle.task_parser.specs.inner.Reading.{Reader, read_opened, read_the}
use Rattle.task_parser.specs.inner.Laws.{Inhabited}
use Rattle.task_parser.specs.meaning.Expressions.{Text, name, register, number, operator, comparison, chain_of, compared_of, named_of, level, sum, compared, disjunction, place_in, operand, unary, expression}
use Rattle.task_parser.specs.inner.ExpressionReaders.{starting, comparisons, read_number, read_member, read_level, read_product, read_sum, read_compared, read_conjunction, read_disjunction, read_pair, read_place, read_named, read_rows, read_group, read_negation, read_leaf, read_operand, read_unary, read_expression}
use Rattle.task_parser.proofs.Exact.{inhabited_made, inhabited_both}
use Rattle.task_parser.proofs.Many.{inhabited_many}
use Rattle.task_parser.proofs.Perhaps.{inhabited_perhaps}
use Rattle.task_parser.proofs.ClassLists.{disjoint, subset, IsOf}
use Rattle.task_parser.proofs.Forms.{Reads, Inside, Deeper, Implies, Operators, operator_alone, operator_or, inside_with, reads_the, reads_name, reads_register, reads_number, reads_made, reads_both, reads_more, reads_many, reads_perhaps, reads_mark, reads_after, reads_operators, reads_either, reads_as, reads_opened, reads_wider, reads_shut}

-- what an operand goes on with, and an expression
abbrev going : List ℕ
going = OPEN_BRACKET ∷ []

abbrev pub going_on : List ℕ
going_on = OPEN_BRACKET ∷ MUL ∷ DIV ∷ REM ∷ ADD ∷ SUB ∷ EQ ∷ NE ∷ LT ∷ LE ∷ GT ∷ GE ∷ AND ∷ OR ∷ []

abbrev Operands : ℕ → Form Expr → Form Expr → Reader Expr → Type 0
Operands room T P p = Reads room T P p starting going

-- ---- chains

pub reads_member : {room n : ℕ} {ns : List ℕ} {O : Form Op} {T P : Form Expr} {p : Reader Expr} {first goes : List ℕ} → Operators O (n ∷ ns)
    → disjoint first [] ≡ true → Reads room T P p first goes → Reads room (O ▸ T) (O ▸ P) (read_member (n ∷ ns) p) (n ∷ ns) goes
reads_member o d h = reads_both (reads_operators o) h d

reads_level : {room n : ℕ} {ns : List ℕ} {O : Form Op} {T P : Form Expr} {p : Reader Expr} {first goes : List ℕ} (after : List ℕ)
    → Operators O (n ∷ ns) → disjoint first [] ≡ true → disjoint (n ∷ ns) goes ≡ true → subset goes after ≡ true → subset (n ∷ ns) after ≡ true
    → Reads room T P p first goes → Reads room (level O T) (level O P) (read_level (n ∷ ns) p) first after
unfolding read_level
reads_level after o e d g f h = reads_made chain_of (reads_more after h (reads_many (reads_member o e h) d) d g f g)

pub products : Operators (operator "*" Mul ∣ operator "/" Div ∣ operator "%" Rem) (MUL ∷ DIV ∷ REM ∷ [])
products = operator_or "*" Mul MUL refl refl (operator_or "/" Div DIV refl refl (operator_alone "%" Rem REM refl refl))

pub sums : Operators (operator "+" Add ∣ operator "-" Sub) (ADD ∷ SUB ∷ [])
sums = operator_or "+" Add ADD refl refl (operator_alone "-" Sub SUB refl refl)

pub compares : Operators comparison comparisons
compares =
    operator_or "==" Eq EQ refl refl (operator_or "!=" Ne NE refl refl (operator_or "<" Lt LT refl refl
    (operator_or "<=" Le LE refl refl (operator_or ">" Gt GT refl refl (operator_alone ">=" Ge GE refl refl)))))

pub ands : Operators (operator "and" And) (AND ∷ [])
ands = operator_alone "and" And AND refl refl

pub ors : Operators (operator "or" Or) (OR ∷ [])
ors = operator_alone "or" Or OR refl refl

abbrev product : Form Expr → Form Expr
product unary = level (operator "*" Mul ∣ operator "/" Div ∣ operator "%" Rem) unary

abbrev conjunction : Form Expr → Form Expr
conjunction unary = level (operator "and" And) (compared (sum unary))

pub reads_product : {room : ℕ} {T P : Form Expr} {p : Reader Expr} → Operands room T P p
    → Reads room (product T) (product P) (read_product p) starting (OPEN_BRACKET ∷ MUL ∷ DIV ∷ REM ∷ [])
reads_product h = reads_level (OPEN_BRACKET ∷ MUL ∷ DIV ∷ REM ∷ []) products refl refl refl refl h

pub reads_sum : {room : ℕ} {T P : Form Expr} {p : Reader Expr} → Operands room T P p
    → Reads room (sum T) (sum P) (read_sum p) starting (OPEN_BRACKET ∷ MUL ∷ DIV ∷ REM ∷ ADD ∷ SUB ∷ [])
reads_sum h = reads_level (OPEN_BRACKET ∷ MUL ∷ DIV ∷ REM ∷ ADD ∷ SUB ∷ []) sums refl refl refl refl (reads_product h)

abbrev with_comparisons : List ℕ
with_comparisons = OPEN_BRACKET ∷ MUL ∷ DIV ∷ REM ∷ ADD ∷ SUB ∷ EQ ∷ NE ∷ LT ∷ LE ∷ GT ∷ GE ∷ []

pub reads_compared : {room : ℕ} {T P : Form Expr} {p : Reader Expr} → Operands room T P p
    → Reads room (compared (sum T)) (compared (sum P)) (read_compared (read_sum p)) starting with_comparisons
unfolding read_compared
reads_compared h =
    let s = reads_sum h in
    reads_made compared_of (reads_more with_comparisons s (reads_perhaps (reads_member compares refl s)) refl refl refl refl)

pub reads_conjunction : {room : ℕ} {T P : Form Expr} {p : Reader Expr} → Operands room T P p
    → Reads room (conjunction T) (conjunction P) (read_conjunction p) starting (AND ∷ with_comparisons)
reads_conjunction h = reads_level (AND ∷ with_comparisons) ands refl refl refl refl (reads_compared h)

pub reads_disjunction : {room : ℕ} {T P : Form Expr} {p : Reader Expr} → Operands room T P p
    → Reads room (disjunction T) (disjunction P) (read_disjunction p) starting going_on
reads_disjunction h = reads_level going_on ors refl refl refl refl (reads_conjunction h)

-- ---- operands

abbrev Lower : ℕ → Form Expr → Form Expr → Option (Reader Expr) → Type 0
Lower room T P inner = Deeper room T P inner starting going

inhabited_level : (O : Form Op) (T : Form Expr) → Inhabited T → Inhabited (level O T)
inhabited_level O T full = inhabited_made chain_of (T ▸ many (O ▸ T)) (inhabited_both T (many (O ▸ T)) full (inhabited_many (O ▸ T)))

inhabited_disjunction : (T : Form Expr) → Inhabited T → Inhabited (disjunction T)
inhabited_disjunction T full =
    let S : Form Expr = sum T in
    inhabited_level (operator "or" Or) (conjunction T) (inhabited_level (operator "and" And) (compared S)
    (inhabited_made compared_of (S ▸ perhaps (comparison ▸ S)) (inhabited_both S (perhaps (comparison ▸ S))
    (inhabited_level (operator "+" Add ∣ operator "-" Sub) (product T)
    (inhabited_level (operator "*" Mul ∣ operator "/" Div ∣ operator "%" Rem) T full))
    (inhabited_perhaps (comparison ▸ S)))))

inhabited_pair : (T : Form Expr) → Inhabited T → Inhabited (T ◂ "," ▸ T)
inhabited_pair T full =
    let comma : Reads 0 (the ",") (the ",") (read_the COMMA) (COMMA ∷ []) [] = reads_the "," COMMA refl in
    inhabited_both (T ◂ ",") T (inhabited_made first_of (T ▸ the ",") (inhabited_both T (the ",") full comma.inhabited)) full

reads_pair : {room : ℕ} {T P : Form Expr} {p : Reader Expr} → Reads room T P p starting going_on
    → Reads room (T ◂ "," ▸ T) (P ◂ "," ▸ P) (read_pair p) starting going_on
reads_pair h = reads_both (reads_mark "," COMMA refl refl h) h refl

reads_place : (room : ℕ) (T P : Form Expr) (inner : Option (Reader Expr)) → Lower room T P inner
    → Reads room (place_in (disjunction T)) (place_in (disjunction P)) (read_place inner) (OPEN_BRACKET ∷ []) []
unfolding read_place
reads_place room T P inner h =
    reads_mark "]" CLOSE_BRACKET refl refl (reads_opened "[" OPEN_BRACKET refl room (option_map (λ p. read_pair (read_disjunction p)) inner)
    (inside_with room T P (disjunction T ◂ "," ▸ disjunction T) (disjunction P ◂ "," ▸ disjunction P)
    (λ p. read_pair (read_disjunction p)) inner going_on
    (λ full. inhabited_pair (disjunction T) (inhabited_disjunction T full))
    (λ r p k. let m = reads_pair (reads_disjunction k) in (m.sound, m.complete)) h))

reads_group : (room : ℕ) (T P : Form Expr) (inner : Option (Reader Expr)) → Lower room T P inner
    → Reads room (Opened "(" (disjunction T) ◂ ")") (Opened "(" (disjunction P) ◂ ")")
    (read_group inner) (OPEN_PAREN ∷ []) []
unfolding read_group
reads_group room T P inner h =
    reads_mark ")" CLOSE_PAREN refl refl (reads_opened "(" OPEN_PAREN refl room (option_map read_disjunction inner)
    (inside_with room T P (disjunction T) (disjunction P) read_disjunction inner going_on
    (λ full. inhabited_disjunction T full) (λ r p k. let m = reads_disjunction k in (m.sound, m.complete)) h))

-- an operand after a minus or a `not`
reads_inner : (text : String) (n : ℕ) → IsOf text n → (room : ℕ) (T P : Form Expr) (inner : Option (Reader Expr)) → Lower room T P inner
    → Reads room (Opened text T) (Opened text P) (read_opened (among (n ∷ [])) inner) (n ∷ []) going
reads_inner text n is room T P inner h = reads_opened text n is room inner (same room inner h)
  where
    same : (room : ℕ) (inner : Option (Reader Expr)) → Lower room T P inner → Inside room T P inner going
    same zero None h = h
    same zero (Some p) h = absurd h
    same (suc room) None h = absurd h
    same (suc room) (Some p) h = (h.inhabited, h.sound, h.complete)

reads_named : (room : ℕ) (T P : Form Expr) (text : Text) (inner : Option (Reader Expr)) → Lower room T P inner
    → Reads room (Made named_of (name text ▸ perhaps (place_in (disjunction T))))
    (Made named_of (name text ▸ perhaps (place_in (disjunction P)))) (read_named text inner) (NAME ∷ []) going
unfolding read_named
reads_named room T P text inner h =
    reads_made named_of (reads_more going (reads_name text) (reads_perhaps (reads_place room T P inner h)) refl refl refl refl)

abbrev rows : Text → Form Expr
rows text = Made Rows (preceded "rows" (preceded "(" (name text ◂ ")")))

reads_rows : {room : ℕ} (text : Text) → Reads room (rows text) (rows text) (read_rows text) (ROWS ∷ []) []
unfolding read_rows
reads_rows text =
    reads_made Rows (reads_after "rows" ROWS refl refl (reads_after "(" OPEN_PAREN refl refl (reads_mark ")" CLOSE_PAREN refl refl (reads_name text))))

abbrev leaf : Text → Form Expr
leaf text = Made Num number ∣ Made Reg (register text) ∣ Made (λ token. Me) (the "self") ∣ rows text

reads_leaf : {room : ℕ} (text : Text)
    → Reads room (leaf text) (leaf text) (read_leaf text) (NUM ∷ REG ∷ SELF ∷ ROWS ∷ []) []
unfolding read_leaf
reads_leaf text =
    reads_either (NUM ∷ REG ∷ SELF ∷ ROWS ∷ []) (reads_made Num reads_number)
    (reads_either (REG ∷ SELF ∷ ROWS ∷ []) (reads_made Reg (reads_register text))
    (reads_either (SELF ∷ ROWS ∷ []) (reads_made (λ t. Me) (reads_the "self" SELF refl)) (reads_rows text) refl refl refl)
    refl refl refl) refl refl refl

-- the reader asks for the operands that nest first
abbrev nesting_first : Text → Form Expr → Form Expr
nesting_first text unary =
    Made Neg (Opened "-" unary)
    ∣ Made Not (Opened "not" unary)
    ∣ Made named_of (name text ▸ perhaps (place_in (disjunction unary)))
    ∣ (Opened "(" (disjunction unary) ◂ ")")
    ∣ leaf text

as_operand : (text : Text) (T : Form Expr) → Implies (nesting_first text T) (operand text T)
as_operand text T depth used value (inl h) = inl h
as_operand text T depth used value (inr (inl h)) = inr (inl h)
as_operand text T depth used value (inr (inr (inl h))) = inr (inr (inr (inl h)))
as_operand text T depth used value (inr (inr (inr (inl h)))) = inr (inr (inr (inr (inr (inr (inr h))))))
as_operand text T depth used value (inr (inr (inr (inr (inl h))))) = inr (inr (inl h))
as_operand text T depth used value (inr (inr (inr (inr (inr (inl h)))))) = inr (inr (inr (inr (inl h))))
as_operand text T depth used value (inr (inr (inr (inr (inr (inr (inl h))))))) = inr (inr (inr (inr (inr (inl h)))))
as_operand text T depth used value (inr (inr (inr (inr (inr (inr (inr h))))))) = inr (inr (inr (inr (inr (inr (inl h))))))

of_operand : (text : Text) (T : Form Expr) → Implies (operand text T) (nesting_first text T)
of_operand text T depth used value (inl h) = inl h
of_operand text T depth used value (inr (inl h)) = inr (inl h)
of_operand text T depth used value (inr (inr (inl h))) = inr (inr (inr (inr (inl h))))
of_operand text T depth used value (inr (inr (inr (inl h)))) = inr (inr (inl h))
of_operand text T depth used value (inr (inr (inr (inr (inl h))))) = inr (inr (inr (inr (inr (inl h)))))
of_operand text T depth used value (inr (inr (inr (inr (inr (inl h)))))) = inr (inr (inr (inr (inr (inr (inl h))))))
of_operand text T depth used value (inr (inr (inr (inr (inr (inr (inl h))))))) = inr (inr (inr (inr (inr (inr (inr h))))))
of_operand text T depth used value (inr (inr (inr (inr (inr (inr (inr h))))))) = inr (inr (inr (inl h)))

reads_operand : (room : ℕ) (T P : Form Expr) (text : Text) (inner : Option (Reader Expr)) → Lower room T P inner
    → Operands room (operand text T) (operand text P) (read_operand text inner)
unfolding read_operand read_negation
reads_operand room T P text inner h =
    reads_as (as_operand text T) (of_operand text T) (of_operand text P)
    (reads_either starting (reads_made Neg (reads_inner "-" SUB refl room T P inner h))
    (reads_either (NOT ∷ NUM ∷ NAME ∷ REG ∷ SELF ∷ ROWS ∷ OPEN_PAREN ∷ []) (reads_made Not (reads_inner "not" NOT refl room T P inner h))
    (reads_either (NUM ∷ NAME ∷ REG ∷ SELF ∷ ROWS ∷ OPEN_PAREN ∷ []) (reads_named room T P text inner h)
    (reads_either (NUM ∷ REG ∷ SELF ∷ ROWS ∷ OPEN_PAREN ∷ []) (wide (reads_group room T P inner h)) (wide (reads_leaf text))
    refl refl refl) refl refl refl) refl refl refl) refl refl refl)
  where
    wide : {room : ℕ} {U Q : Form Expr} {q : Reader Expr} {first : List ℕ} → Reads room U Q q first [] → Reads room U Q q first going
    wide k = reads_wider going refl k

inhabited_operand : (T : Form Expr) (text : Text) → Inhabited (operand text T)
inhabited_operand T text =
    λ depth. let r : Reads 0 number number read_number (NUM ∷ []) [] = reads_number in let n = r.inhabited depth in
    (n.0, Num n.1, inr (inr (inl (record { from = n.1; is = refl; stands = n.2 }))))

pub reads_unary : (text : Text) (room height : ℕ) → Operands room (unary text (suc (suc room))) (unary text height) (read_unary text room)
unfolding read_unary
reads_unary text zero zero = reads_shut (reads_operand zero (unary text 1) (unary text 0) text None (inhabited_operand (unary text 0) text))
reads_unary text zero (suc height) = reads_operand zero (unary text 1) (unary text height) text None (inhabited_operand (unary text 0) text)
reads_unary text (suc room) zero =
    reads_shut (reads_operand (suc room) (unary text (suc (suc room))) (unary text 0) text (Some (read_unary text room))
    (reads_unary text room 0))
reads_unary text (suc room) (suc height) =
    reads_operand (suc room) (unary text (suc (suc room))) (unary text height) text (Some (read_unary text room))
    (reads_unary text room height)

pub reads_expression : (text : Text) (room height : ℕ)
    → Reads room (expression text (suc (suc room))) (expression text height) (read_expression text room) starting going_on
reads_expression text room height = reads_disjunction (reads_unary text room height)
