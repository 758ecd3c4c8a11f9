-- The grammar of statements.
use Rattle.std.specs.Prelude.{ℕ, zero, suc, List, [], unwrap_or}
use Rattle.task_ast.specs.declared.tree.Atom.{Atom}
use Rattle.task_ast.specs.declared.tree.Atom.TheVariants as atoms
use Rattle.task_ast.specs.meaning.Tree.{Expr, Stmt, At, What, SetCtl, While, If, Lock, Unlock, Fork, Join, Barrier, Settle, SetReg, Read, Write, Print, When, Block, Nothing, block}
use Rattle.task_parser.specs.declared.token.Kind.TheVariants as kinds
use Rattle.task_parser.specs.declared.token.Token.{Token}
use Rattle.task_parser.specs.meaning.Words.{Form, ◌▸◌, Made, ◌∣◌, many, perhaps, Opened, of_kind, the, ◌◂◌, preceded, separated, nothing}
use Rattle.task_parser.specs.meaning.Expressions.{Text, name_of, reg_name, name, register, number, expression}

-- ---- what the parts stand for: a statement stands on the line of its first token

-- a variable, by its token, is set
abbrev pub set_of : (Token → Text) → (Text → Expr → What) → Token × Expr → Stmt
set_of called set (variable, e) = At variable.line (set (called variable) e)

-- a word, and one, two or three parts after it
abbrev pub of_one : {A : Type 0} → (A → What) → Token × A → Stmt
of_one make (word, a) = At word.line (make a)

abbrev pub of_two : {A B : Type 0} → (A → B → What) → (Token × A) × B → Stmt
of_two make ((word, a), b) = At word.line (make a b)

abbrev pub of_three : {A B C : Type 0} → (A → B → C → What) → ((Token × A) × B) × C → Stmt
of_three make (((word, a), b), c) = At word.line (make a b c)

-- ---- the forms

abbrev pub atom : Text → Form Atom
atom text = Made atoms.Num number ∣ Made atoms.Var (name text)

-- statements in braces, which nest
abbrev pub block_of : Form Stmt → Form Block
block_of s = Opened "{" (Made block (many s)) ◂ "}"

-- a missing `else` is an empty block
abbrev pub else_block : Form Stmt → Form Block
else_block s = Made (λ b. unwrap_or b Nothing) (perhaps (preceded "else" (block_of s)))

-- members with commas between them, or none
abbrev pub listed_in : {A : Type 0} → Form A → Form (List A)
listed_in P = Made (λ xs. unwrap_or xs []) (perhaps (separated "," P))

-- a data statement, from the expressions and the data statements in it
abbrev pub data_form : Text → Form Expr → Form Stmt → Form Stmt
data_form text e d =
    Made (set_of (reg_name text) SetReg) (of_kind kinds.Reg ◂ "=" ▸ e ◂ ";")
    ∣ Made (of_three Read) (the "read" ▸ name text ◂ "[" ▸ atom text ◂ "]" ◂ "into" ▸ register text ◂ ";")
    ∣ Made (of_three Write) (the "write" ▸ name text ◂ "[" ▸ atom text ◂ "]" ◂ "=" ▸ e ◂ ";")
    ∣ Made (of_one Print) (the "print" ▸ separated "," e ◂ ";")
    ∣ Made (of_three When) (the "when" ▸ e ▸ block_of d ▸ else_block d)

-- any other statement, from the expressions and the statements in it
abbrev pub control_form : Text → Form Expr → Form Stmt → Form Stmt
control_form text e s =
    Made (set_of (name_of text) SetCtl) (of_kind kinds.Name ◂ "=" ▸ e ◂ ";")
    ∣ Made (of_two While) (the "while" ▸ e ▸ block_of s)
    ∣ Made (of_three If) (the "if" ▸ e ▸ block_of s ▸ else_block s)
    ∣ Made (of_two Lock) (the "lock" ▸ name text ◂ "[" ▸ atom text ◂ "]" ◂ ";")
    ∣ Made (of_two Unlock) (the "unlock" ▸ name text ◂ "[" ▸ atom text ◂ "]" ◂ ";")
    ∣ Made (of_three Fork) (the "fork" ▸ name text ◂ "(" ▸ listed_in e ◂ ")" ▸ perhaps (preceded "into" (name text)) ◂ ";")
    ∣ Made (of_two Join) (the "join" ▸ e ▸ perhaps (preceded "into" (register text)) ◂ ";")
    ∣ Made (of_one Barrier) (the "barrier" ▸ name text ◂ ";")
    ∣ Made (of_two Settle) (the "settle" ▸ register text ◂ "into" ▸ name text ◂ ";")

-- a data statement in which constructs nest less deep than the height
abbrev pub data_statement : Text → ℕ → Form Stmt
data_statement text zero = nothing
data_statement text (suc height) = data_form text (expression text (suc height)) (data_statement text height)

abbrev pub statement : Text → ℕ → Form Stmt
statement text zero = nothing
statement text (suc height) = control_form text (expression text (suc height)) (statement text height) ∣ data_statement text (suc height)
