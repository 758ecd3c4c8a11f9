-- What the code reads, against reading on lists.
use Rattle.std.specs.Prelude.{◌≡◌, ℕ, zero, suc, Option, Some, None, true, false, List, [], ◌∷◌, Result, Ok, Err}
use Rattle.task_ast.specs.meaning.Tree.{Expr, Stmt, What, If, When, Block}
use Rattle.task_parser.specs.declared.halt.Halt.{Halt}
use Rattle.task_parser.specs.declared.halt.Halt.TheVariants.{Memory, Unexpected, TooDeep}
use Rattle.task_parser.specs.declared.classes.TheConstants.{IF, WHEN, AND, OR, ADD, SUB, MUL, DIV, REM}
use Rattle.task_parser.specs.declared.expressions.Level.{Level}
use Rattle.task_parser.specs.declared.expressions.Level.TheVariants as levels
use Rattle.task_parser.specs.declared.statements.Allowed.{Allowed}
use Rattle.task_parser.specs.declared.statements.Allowed.TheVariants.{All, Data}
use Rattle.task_parser.specs.inner.StatementReaders.{data_starts, statement_starts, read_block, read_else, read_branching, read_data_statement, read_statement}
use Rattle.task_parser.specs.inner.Reading.{Reader}
use Rattle.task_parser.specs.meaning.Promise.{Stop}
use Rattle.task_parser.specs.meaning.Expressions.{Text}
use Rattle.task_parser.specs.inner.ExpressionReaders.{comparisons, read_product, read_sum, read_compared, read_conjunction, read_unary, read_expression}

-- Want of memory says nothing of the tokens.
abbrev pub Fails : {Y : Type 0} → Halt → Result Y Stop → Type 0
Fails Memory read = Unit {0}
Fails (Unexpected rest) read = read ≡ Err (record { deep = false; rest = rest.now })
Fails (TooDeep rest) read = read ≡ Err (record { deep = true; rest = rest.now })

-- What is read by the one is what is read by the other.
abbrev pub Gives : {X Y : Type 0} → (X → Y) → Result X Halt → Result Y Stop → Type 0
Gives view (Ok x) read = read ≡ Ok (view x)
Gives view (Err e) read = Fails e read

-- the operators of a level
abbrev pub operators : Level → List ℕ
operators levels.Or = OR ∷ []
operators levels.And = AND ∷ []
operators levels.Comparison = comparisons
operators levels.Sum = ADD ∷ SUB ∷ []
operators levels.Product = MUL ∷ DIV ∷ REM ∷ []

-- what stands between them
abbrev pub read_part : Level → Text → ℕ → Reader Expr
read_part levels.Or text room = read_conjunction (read_unary text room)
read_part levels.And text room = read_compared (read_sum (read_unary text room))
read_part levels.Comparison text room = read_sum (read_unary text room)
read_part levels.Sum text room = read_product (read_unary text room)
read_part levels.Product text room = read_unary text room

-- what the statements of a block begin with
abbrev pub starts : Allowed → List ℕ
starts All = statement_starts
starts Data = data_starts

abbrev pub read_allowed : Allowed → Text → ℕ → Reader Stmt
read_allowed All text room = read_statement text room
read_allowed Data text room = read_data_statement text room

-- what a brace at this room opens
abbrev pub allowed_below : Allowed → Text → ℕ → Option (Reader Stmt)
allowed_below allowed text zero = None
allowed_below allowed text (suc room) = Some (read_allowed allowed text room)

-- a block of statements, and the block after an `else`
abbrev pub read_block_at : Allowed → Text → ℕ → Reader Block
read_block_at allowed text room = read_block (starts allowed) (allowed_below allowed text room)

abbrev pub read_else_at : Allowed → Text → ℕ → Reader Block
read_else_at allowed text room = read_else (starts allowed) (allowed_below allowed text room)

-- the branch whose blocks hold such statements
abbrev pub branch_word : Allowed → ℕ
branch_word All = IF
branch_word Data = WHEN

abbrev pub branch : Allowed → Expr → Block → Block → What
branch All = If
branch Data = When

abbrev pub read_branching_at : Allowed → Text → ℕ → Reader Stmt
read_branching_at allowed text room =
    read_branching (branch_word allowed) (branch allowed) (starts allowed) (read_expression text room) (allowed_below allowed text room)
