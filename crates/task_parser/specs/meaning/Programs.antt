-- The grammar of heads, tasks and programs.
use Rattle.std.specs.Prelude.{ℕ, ℤ, ◌-◌, ◌+◌, List, Option}
use Rattle.task_ast.specs.declared.tree.Head.{Head}
use Rattle.task_ast.specs.declared.tree.Head.TheVariants.{LockHead, BarrierHead, RecHead, FeedHead}
use Rattle.task_ast.specs.declared.tree.Param.{Param}
use Rattle.task_ast.specs.declared.tree.Param.TheVariants.{Ctl, Reg}
use Rattle.task_ast.specs.declared.tree.VarLine.{VarLine}
use Rattle.task_ast.specs.meaning.Tree.{Block, block, TaskText, Program}
use Rattle.task_parser.specs.declared.token.Kind.TheVariants.{Quoted}
use Rattle.task_parser.specs.declared.token.Token.{Token}
use Rattle.task_parser.specs.meaning.Words.{Form, ◌▸◌, Made, ◌∣◌, many, perhaps, of_kind, the, ◌◂◌, preceded, some, separated}
use Rattle.task_parser.specs.meaning.Expressions.{Text, between, name, register, number}
use Rattle.task_parser.specs.meaning.Statements.{listed_in, statement}

-- ---- what the parts stand for

-- the name of a file, without its quotes
abbrev pub file_of : Text → Token → Text
file_of text t = between text (t.from + 1) (t.to - 1)

abbrev pub lock_head_of : (Token × Text) × ℤ → Head
lock_head_of ((word, name), size) = LockHead name size word.line

abbrev pub barrier_head_of : (Token × Text) × ℤ → Head
barrier_head_of ((word, name), count) = BarrierHead name count word.line

abbrev pub record_head_of : (((Token × Text) × ℤ) × Text) × Option Text → Head
record_head_of ((((word, name), size), lock), file) = RecHead name size lock file word.line

abbrev pub feed_head_of : ((Token × Text) × ℤ) × Text → Head
feed_head_of (((word, name), fields), file) = FeedHead name fields file word.line

abbrev pub var_line_of : Token × List Param → VarLine
var_line_of (word, names) = record { names = names; line = word.line }

abbrev pub task_of : (((Token × Text) × List Param) × List VarLine) × Block → TaskText
task_of ((((word, name), params), vars), body) = record { name = name; params = params; vars = vars; body = body; line = word.line }

abbrev pub program_from : List Head × List TaskText → Program
program_from (heads, tasks) = record { heads = heads; tasks = tasks }

-- ---- the forms

abbrev pub file : Text → Form Text
file text = Made (file_of text) (of_kind Quoted)

abbrev pub head : Text → Form Head
head text =
    Made lock_head_of (the "lock" ▸ name text ◂ "[" ▸ number ◂ "]" ◂ ";")
    ∣ Made barrier_head_of (the "barrier" ▸ name text ◂ "(" ▸ number ◂ ")" ◂ ";")
    ∣ Made record_head_of (the "record" ▸ name text ◂ "[" ▸ number ◂ "]" ◂ "by" ▸ name text ▸ perhaps (preceded "from" (file text)) ◂ ";")
    ∣ Made feed_head_of (the "feed" ▸ name text ◂ "[" ▸ number ◂ "]" ◂ "from" ▸ file text ◂ ";")

abbrev pub param : Text → Form Param
param text = Made Ctl (name text) ∣ Made Reg (register text)

abbrev pub var_line : Text → Form VarLine
var_line text = Made var_line_of (the "var" ▸ separated "," (param text) ◂ ";")

-- its braces and parentheses don't count as nesting
abbrev pub task : Text → ℕ → Form TaskText
task text height =
    Made task_of
    (the "task" ▸ name text ◂ "(" ▸ listed_in (param text) ◂ ")"
    ◂ "{" ▸ many (var_line text) ▸ Made block (many (statement text height)) ◂ "}")

-- a program in which constructs nest less deep than the height
abbrev pub program : Text → ℕ → Form Program
program text height = Made program_from (many (head text) ▸ some (task text height))
