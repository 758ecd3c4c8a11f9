-- Reading expressions, form by form.
use Rattle.std.specs.Prelude.{ℕ, zero, suc, cond, nat_eq, ℤ, pos, List, [], ◌∷◌, Option, Some, None, option_map}
use Rattle.task_ast.specs.declared.tree.Op.{Op}
use Rattle.task_ast.specs.meaning.Tree.{Expr, Num, Reg, Me, Rows, Neg, Not}
use Rattle.task_parser.specs.declared.token.Kind.{Kind}
use Rattle.task_parser.specs.declared.token.Kind.TheVariants as kinds
use Rattle.task_parser.specs.declared.token.Token.{Token}
use Rattle.task_parser.specs.declared.classes.TheConstants.{NUM, NAME, REG, AND, OR, NOT, SELF, ROWS, OPEN_BRACKET, CLOSE_BRACKET, OPEN_PAREN, CLOSE_PAREN, COMMA, EQ, NE, LT, LE, GT, GE, ADD, SUB, MUL, DIV, REM}
use Rattle.task_parser.specs.inner.Classes.{among, is, op_of}
use Rattle.task_parser.specs.inner.Reading.{Reader, read_one, ◌▹◌, read_made, read_either, repeat, read_perhaps, read_opened, read_the, ◌◃◌, read_after}
use Rattle.task_parser.specs.meaning.Expressions.{Text, name_of, reg_name, chain_of, compared_of, named_of}

-- what an operand begins with
abbrev pub starting : List ℕ
starting = SUB ∷ NOT ∷ NUM ∷ NAME ∷ REG ∷ SELF ∷ ROWS ∷ OPEN_PAREN ∷ []

abbrev pub number_in : Kind → ℤ
number_in (kinds.Num n) = n
number_in _ = pos 0

abbrev pub number_of : Token → ℤ
number_of t = number_in t.kind

abbrev pub read_name : Text → Reader Text
read_name text = read_made (name_of text) (read_the NAME)

abbrev pub read_register : Text → Reader Text
read_register text = read_made (reg_name text) (read_the REG)

abbrev pub read_number : Reader ℤ
read_number = read_made number_of (read_the NUM)

abbrev pub comparisons : List ℕ
comparisons = EQ ∷ NE ∷ LT ∷ LE ∷ GT ∷ GE ∷ []

abbrev pub read_operator : List ℕ → Reader Op
read_operator operators = read_made op_of (read_one (among operators))

abbrev pub read_member : List ℕ → Reader Expr → Reader (Op × Expr)
read_member operators p = read_operator operators ▹ p

unfoldable pub read_level : List ℕ → Reader Expr → Reader Expr
read_level operators p = read_made chain_of (p ▹ repeat (among operators) (read_member operators p))

abbrev pub read_product : Reader Expr → Reader Expr
read_product unary = read_level (MUL ∷ DIV ∷ REM ∷ []) unary

abbrev pub read_sum : Reader Expr → Reader Expr
read_sum unary = read_level (ADD ∷ SUB ∷ []) (read_product unary)

unfoldable pub read_compared : Reader Expr → Reader Expr
read_compared p = read_made compared_of (p ▹ read_perhaps (among comparisons) (read_member comparisons p))

abbrev pub read_conjunction : Reader Expr → Reader Expr
read_conjunction unary = read_level (AND ∷ []) (read_compared (read_sum unary))

abbrev pub read_disjunction : Reader Expr → Reader Expr
read_disjunction unary = read_level (OR ∷ []) (read_conjunction unary)

abbrev pub read_pair : Reader Expr → Reader (Expr × Expr)
read_pair e = e ◃ COMMA ▹ e

unfoldable pub read_place : Option (Reader Expr) → Reader (Expr × Expr)
read_place inner = read_opened (is OPEN_BRACKET) (option_map (λ p. read_pair (read_disjunction p)) inner) ◃ CLOSE_BRACKET

unfoldable pub read_named : Text → Option (Reader Expr) → Reader Expr
read_named text inner = read_made named_of (read_name text ▹ read_perhaps (is OPEN_BRACKET) (read_place inner))

unfoldable pub read_rows : Text → Reader Expr
read_rows text = read_made Rows (read_after ROWS (read_after OPEN_PAREN (read_name text ◃ CLOSE_PAREN)))

unfoldable pub read_group : Option (Reader Expr) → Reader Expr
read_group inner = read_opened (is OPEN_PAREN) (option_map read_disjunction inner) ◃ CLOSE_PAREN

-- by the class of the sign
abbrev pub negation : ℕ → Expr → Expr
negation sign = cond (nat_eq sign SUB) Neg Not

unfoldable pub read_negation : ℕ → Option (Reader Expr) → Reader Expr
read_negation sign inner = read_made (negation sign) (read_opened (is sign) inner)

unfoldable pub read_leaf : Text → Reader Expr
read_leaf text =
    read_either (is NUM) (read_made Num read_number)
    (read_either (is REG) (read_made Reg (read_register text))
    (read_either (is SELF) (read_made (λ t. Me) (read_the SELF))
    (read_rows text)))

unfoldable pub read_operand : Text → Option (Reader Expr) → Reader Expr
read_operand text inner =
    read_either (is SUB) (read_negation SUB inner)
    (read_either (is NOT) (read_negation NOT inner)
    (read_either (is NAME) (read_named text inner)
    (read_either (is OPEN_PAREN) (read_group inner)
    (read_leaf text))))

-- with room for so many constructs that nest
unfoldable pub read_unary : Text → ℕ → Reader Expr
read_unary text zero = read_operand text None
read_unary text (suc room) = read_operand text (Some (read_unary text room))

-- what an opener at this room opens
abbrev pub below : Text → ℕ → Option (Reader Expr)
below text zero = None
below text (suc room) = Some (read_unary text room)

abbrev pub read_expression : Text → ℕ → Reader Expr
read_expression text room = read_disjunction (read_unary text room)
