-- The grammar of expressions.
use Prim.Native.String.{String}
use Rattle.std.specs.Prelude.{ℕ, zero, suc, ℤ, ◌+◌, ◌-◌, List, [], ◌∷◌, Option, Some, None, option_to_list, take, drop}
use Rattle.task_ast.specs.declared.tree.Op.{Op}
use Rattle.task_ast.specs.declared.tree.Op.TheVariants.{Or, And, Eq, Ne, Lt, Le, Gt, Ge, Add, Sub, Mul, Div, Rem}
use Rattle.task_ast.specs.meaning.Tree.{Expr, Num, Ctl, Reg, Me, Rows, Cell, Neg, Not, Chain, links}
use Rattle.task_parser.specs.declared.token.Kind.TheVariants as kinds
use Rattle.task_parser.specs.declared.token.Token.{Token}
use Rattle.task_parser.specs.meaning.Words.{Form, ◌▸◌, Made, ◌∣◌, many, perhaps, Opened, of_kind, the, ◌◂◌, preceded, nothing}

-- the bytes of a program's text, or of a part of it
abbrev pub Text : Type 0
Text = List ℕ

-- ---- names and numbers

abbrev pub between : Text → ℕ → ℕ → Text
between text from to = take (to - from) (drop from text)

abbrev pub name_of : Text → Token → Text
name_of text t = between text t.from t.to

-- a data variable without its `$`
abbrev pub reg_name : Text → Token → Text
reg_name text t = between text (t.from + 1) t.to

abbrev pub name : Text → Form Text
name text = Made (name_of text) (of_kind kinds.Name)

abbrev pub register : Text → Form Text
register text = Made (reg_name text) (of_kind kinds.Reg)

abbrev pub number : Form ℤ
number depth placed n = (token : Token) × of_kind (kinds.Num n) depth placed token

-- ---- chains of operators

-- an operator, by how it is written
abbrev pub operator : String → Op → Form Op
operator text op = Made (λ token. op) (the text)

-- a chain without an operator is its one member
abbrev pub chain_of : Expr × List (Op × Expr) → Expr
chain_of (first, []) = first
chain_of (first, m ∷ ms) = Chain first (links (m ∷ ms))

abbrev pub compared_of : Expr × Option (Op × Expr) → Expr
compared_of (first, second) = chain_of (first, option_to_list second)

-- one P or more, with operators between them
abbrev pub level : Form Op → Form Expr → Form Expr
level operators P = Made chain_of (P ▸ many (operators ▸ P))

abbrev pub sum : Form Expr → Form Expr
sum unary = level (operator "+" Add ∣ operator "-" Sub) (level (operator "*" Mul ∣ operator "/" Div ∣ operator "%" Rem) unary)

abbrev pub comparison : Form Op
comparison = operator "==" Eq ∣ operator "!=" Ne ∣ operator "<" Lt ∣ operator "<=" Le ∣ operator ">" Gt ∣ operator ">=" Ge

abbrev pub compared : Form Expr → Form Expr
compared P = Made compared_of (P ▸ perhaps (comparison ▸ P))

abbrev pub disjunction : Form Expr → Form Expr
disjunction unary = level (operator "or" Or) (level (operator "and" And) (compared (sum unary)))

-- ---- operands

abbrev pub named_of : Text × Option (Expr × Expr) → Expr
named_of (name, None) = Ctl name
named_of (name, Some (row, field)) = Cell name row field

-- a row and a field in brackets, which nest
abbrev pub place_in : Form Expr → Form (Expr × Expr)
place_in e = Opened "[" (e ◂ "," ▸ e) ◂ "]"

-- an operand, from the operands in it
abbrev pub operand : Text → Form Expr → Form Expr
operand text unary =
    Made Neg (Opened "-" unary)
    ∣ Made Not (Opened "not" unary)
    ∣ Made Num number
    ∣ Made named_of (name text ▸ perhaps (place_in (disjunction unary)))
    ∣ Made Reg (register text)
    ∣ Made (λ token. Me) (the "self")
    ∣ Made Rows (preceded "rows" (preceded "(" (name text ◂ ")")))
    ∣ Opened "(" (disjunction unary) ◂ ")"

-- an operand in which constructs nest less deep than the height
abbrev pub unary : Text → ℕ → Form Expr
unary text zero = nothing
unary text (suc height) = operand text (unary text height)

abbrev pub expression : Text → ℕ → Form Expr
expression text height = disjunction (unary text height)
