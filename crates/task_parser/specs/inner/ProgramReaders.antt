-- Reading heads, tasks and programs, form by form.
use Rattle.std.specs.Prelude.{ℕ, ℤ, List, [], ◌∷◌, Option}
use Rattle.task_ast.specs.declared.tree.Head.{Head}
use Rattle.task_ast.specs.declared.tree.Param.{Param}
use Rattle.task_ast.specs.declared.tree.Param.TheVariants.{Ctl, Reg}
use Rattle.task_ast.specs.declared.tree.VarLine.{VarLine}
use Rattle.task_ast.specs.meaning.Tree.{TaskText, Program}
use Rattle.task_parser.specs.declared.token.Token.{Token}
use Rattle.task_parser.specs.declared.classes.TheConstants.{NAME, REG, QUOTED, LOCK, BARRIER, RECORD, BY, FROM, FEED, TASK, VAR, OPEN_BRACKET, CLOSE_BRACKET, OPEN_PAREN, CLOSE_PAREN, OPEN_BRACE, CLOSE_BRACE, COMMA, SEMICOLON}
use Rattle.task_parser.specs.inner.Classes.{among, is}
use Rattle.task_parser.specs.inner.Reading.{Reader, ◌▹◌, read_made, read_either, repeat, read_perhaps, read_the, ◌◃◌, read_after, read_some, read_separated}
use Rattle.task_parser.specs.meaning.Expressions.{Text}
use Rattle.task_parser.specs.inner.ExpressionReaders.{read_name, read_register, read_number}
use Rattle.task_parser.specs.inner.StatementReaders.{statement_starts, read_titled, read_inner_block, read_list, read_statement}
use Rattle.task_parser.specs.meaning.Programs.{lock_head_of, barrier_head_of, record_head_of, feed_head_of, file_of, var_line_of, task_of, program_from}

abbrev pub read_file : Text → Reader Text
read_file text = read_made (file_of text) (read_the QUOTED)

unfoldable pub read_sized : Text → ℕ → ℕ → ℕ → ℕ → Reader ((Token × Text) × ℤ)
read_sized text word opener closer after = read_titled text word opener ▹ read_number ◃ closer ◃ after

unfoldable pub read_lock_head : Text → Reader Head
read_lock_head text = read_made lock_head_of (read_sized text LOCK OPEN_BRACKET CLOSE_BRACKET SEMICOLON)

unfoldable pub read_barrier_head : Text → Reader Head
read_barrier_head text = read_made barrier_head_of (read_sized text BARRIER OPEN_PAREN CLOSE_PAREN SEMICOLON)

unfoldable pub read_from_file : Text → Reader (Option Text)
read_from_file text = read_perhaps (is FROM) (read_after FROM (read_file text))

unfoldable pub read_record_head : Text → Reader Head
read_record_head text = read_made record_head_of (read_sized text RECORD OPEN_BRACKET CLOSE_BRACKET BY ▹ read_name text ▹ read_from_file text ◃ SEMICOLON)

unfoldable pub read_feed_head : Text → Reader Head
read_feed_head text = read_made feed_head_of (read_sized text FEED OPEN_BRACKET CLOSE_BRACKET FROM ▹ read_file text ◃ SEMICOLON)

-- what a head begins with, and a parameter
abbrev pub head_starts : List ℕ
head_starts = LOCK ∷ BARRIER ∷ RECORD ∷ FEED ∷ []

abbrev pub param_starts : List ℕ
param_starts = NAME ∷ REG ∷ []

unfoldable pub read_head : Text → Reader Head
read_head text =
    read_either (is LOCK) (read_lock_head text)
    (read_either (is BARRIER) (read_barrier_head text) (read_either (is RECORD) (read_record_head text) (read_feed_head text)))

unfoldable pub read_param : Text → Reader Param
read_param text = read_either (is NAME) (read_made Ctl (read_name text)) (read_made Reg (read_register text))

unfoldable pub read_var_line : Text → Reader VarLine
read_var_line text = read_made var_line_of (read_the VAR ▹ read_separated COMMA (read_param text) ◃ SEMICOLON)

unfoldable pub read_task_head : Text → Reader ((Token × Text) × List Param)
read_task_head text = read_titled text TASK OPEN_PAREN ▹ read_list param_starts (read_param text) ◃ CLOSE_PAREN ◃ OPEN_BRACE

unfoldable pub read_task : Text → ℕ → Reader TaskText
read_task text room =
    read_made task_of (read_task_head text ▹ repeat (is VAR) (read_var_line text) ▹
    read_inner_block statement_starts (read_statement text room) ◃ CLOSE_BRACE)

unfoldable pub read_program : Text → ℕ → Reader Program
read_program text room = read_made program_from (repeat (among head_starts) (read_head text) ▹ read_some (is TASK) (read_task text room))
