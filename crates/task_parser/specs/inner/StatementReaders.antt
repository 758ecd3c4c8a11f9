-- Reading statements, form by form.
use Rattle.std.specs.Prelude.{ℕ, zero, suc, List, [], ◌∷◌, Option, Some, None, option_map, unwrap_or}
use Rattle.task_ast.specs.declared.tree.Atom.{Atom}
use Rattle.task_ast.specs.declared.tree.Atom.TheVariants as atoms
use Rattle.task_ast.specs.meaning.Tree.{Expr, Stmt, What, SetCtl, While, If, Lock, Unlock, Fork, Join, Barrier, Settle, SetReg, Read, Write, Print, When, Block, Nothing, block}
use Rattle.task_parser.specs.declared.classes.TheConstants.{NUM, NAME, REG, LOCK, UNLOCK, BARRIER, WHILE, IF, ELSE, FORK, INTO, JOIN, READ, WRITE, PRINT, WHEN, SETTLE, OPEN_BRACKET, CLOSE_BRACKET, OPEN_PAREN, CLOSE_PAREN, OPEN_BRACE, CLOSE_BRACE, COMMA, SEMICOLON, ASSIGN}
use Rattle.task_parser.specs.declared.token.Token.{Token}
use Rattle.task_parser.specs.inner.Classes.{among, is}
use Rattle.task_parser.specs.inner.Reading.{Reader, ◌▹◌, read_made, read_either, repeat, read_perhaps, read_opened, read_the, ◌◃◌, read_after, read_separated}
use Rattle.task_parser.specs.meaning.Expressions.{Text, name_of, reg_name}
use Rattle.task_parser.specs.inner.ExpressionReaders.{starting, read_name, read_register, read_number, read_expression}
use Rattle.task_parser.specs.meaning.Statements.{set_of, of_one, of_two, of_three}

-- what a data statement begins with
abbrev pub data_starts : List ℕ
data_starts = REG ∷ READ ∷ WRITE ∷ PRINT ∷ WHEN ∷ []

-- what any other statement without blocks begins with
abbrev pub simple_control_starts : List ℕ
simple_control_starts = NAME ∷ LOCK ∷ UNLOCK ∷ FORK ∷ JOIN ∷ BARRIER ∷ SETTLE ∷ []

abbrev pub statement_starts : List ℕ
statement_starts = WHILE ∷ IF ∷ NAME ∷ LOCK ∷ UNLOCK ∷ FORK ∷ JOIN ∷ BARRIER ∷ SETTLE ∷ REG ∷ READ ∷ WRITE ∷ PRINT ∷ WHEN ∷ []

unfoldable pub read_atom : Text → Reader Atom
read_atom text = read_either (is NUM) (read_made atoms.Num read_number) (read_made atoms.Var (read_name text))

abbrev pub or_empty : {A : Type 0} → Option (List A) → List A
or_empty xs = unwrap_or xs []

abbrev pub or_nothing : Option Block → Block
or_nothing b = unwrap_or b Nothing

-- a word, a name and a mark
abbrev pub read_titled : Text → ℕ → ℕ → Reader (Token × Text)
read_titled text word mark = read_the word ▹ read_name text ◃ mark

-- and an index in brackets, with what stands after it
unfoldable pub read_indexed : Text → ℕ → ℕ → Reader ((Token × Text) × Atom)
read_indexed text word after = read_titled text word OPEN_BRACKET ▹ read_atom text ◃ CLOSE_BRACKET ◃ after

-- a word and an expression
unfoldable pub read_worded : ℕ → Reader Expr → Reader (Token × Expr)
read_worded word e = read_the word ▹ e

-- a variable, by its class, is set
unfoldable pub read_assigned : ℕ → Reader Expr → Reader (Token × Expr)
read_assigned class e = read_the class ◃ ASSIGN ▹ e ◃ SEMICOLON

abbrev pub read_inner_block : List ℕ → Reader Stmt → Reader Block
read_inner_block starts s = read_made block (repeat (among starts) s)

unfoldable pub read_block : List ℕ → Option (Reader Stmt) → Reader Block
read_block starts inner = read_opened (is OPEN_BRACE) (option_map (read_inner_block starts) inner) ◃ CLOSE_BRACE

unfoldable pub read_else : List ℕ → Option (Reader Stmt) → Reader Block
read_else starts inner = read_made or_nothing (read_perhaps (is ELSE) (read_after ELSE (read_block starts inner)))

unfoldable pub read_set_ctl : Text → Reader Expr → Reader Stmt
read_set_ctl text e = read_made (set_of (name_of text) SetCtl) (read_assigned NAME e)

unfoldable pub read_looping : Reader Expr → Option (Reader Stmt) → Reader Stmt
read_looping e inner = read_made (of_two While) (read_worded WHILE e ▹ read_block statement_starts inner)

-- on the statements that its blocks hold
unfoldable pub read_branching : ℕ → (Expr → Block → Block → What) → List ℕ → Reader Expr → Option (Reader Stmt) → Reader Stmt
read_branching word make starts e inner = read_made (of_three make) (read_worded word e ▹ read_block starts inner ▹ read_else starts inner)

unfoldable pub read_locking : Text → Reader Stmt
read_locking text = read_made (of_two Lock) (read_indexed text LOCK SEMICOLON)

unfoldable pub read_unlocking : Text → Reader Stmt
read_unlocking text = read_made (of_two Unlock) (read_indexed text UNLOCK SEMICOLON)

unfoldable pub read_list : {A : Type 0} → List ℕ → Reader A → Reader (List A)
read_list starts p = read_made or_empty (read_perhaps (among starts) (read_separated COMMA p))

unfoldable pub read_into_name : Text → Reader (Option Text)
read_into_name text = read_perhaps (is INTO) (read_after INTO (read_name text))

unfoldable pub read_into_reg : Text → Reader (Option Text)
read_into_reg text = read_perhaps (is INTO) (read_after INTO (read_register text))

unfoldable pub read_forked : Text → Reader Expr → Reader ((Token × Text) × List Expr)
read_forked text e = read_titled text FORK OPEN_PAREN ▹ read_list starting e ◃ CLOSE_PAREN

unfoldable pub read_forking : Text → Reader Expr → Reader Stmt
read_forking text e = read_made (of_three Fork) (read_forked text e ▹ read_into_name text ◃ SEMICOLON)

unfoldable pub read_joining : Text → Reader Expr → Reader Stmt
read_joining text e = read_made (of_two Join) (read_worded JOIN e ▹ read_into_reg text ◃ SEMICOLON)

unfoldable pub read_waiting : Text → Reader Stmt
read_waiting text = read_made (of_one Barrier) (read_titled text BARRIER SEMICOLON)

unfoldable pub read_settling : Text → Reader Stmt
read_settling text = read_made (of_two Settle) (read_the SETTLE ▹ read_register text ◃ INTO ▹ read_name text ◃ SEMICOLON)

unfoldable pub read_set_reg : Text → Reader Expr → Reader Stmt
read_set_reg text e = read_made (set_of (reg_name text) SetReg) (read_assigned REG e)

unfoldable pub read_reading : Text → Reader Stmt
read_reading text = read_made (of_three Read) (read_indexed text READ INTO ▹ read_register text ◃ SEMICOLON)

unfoldable pub read_writing : Text → Reader Expr → Reader Stmt
read_writing text e = read_made (of_three Write) (read_indexed text WRITE ASSIGN ▹ e ◃ SEMICOLON)

unfoldable pub read_printing : Reader Expr → Reader Stmt
read_printing e = read_made (of_one Print) (read_the PRINT ▹ read_separated COMMA e ◃ SEMICOLON)

-- a data statement without blocks
unfoldable pub read_simple_data : Text → Reader Expr → Reader Stmt
read_simple_data text e =
    read_either (is REG) (read_set_reg text e)
    (read_either (is READ) (read_reading text)
    (read_either (is WRITE) (read_writing text e)
    (read_printing e)))

-- any other statement without blocks
unfoldable pub read_simple_control : Text → Reader Expr → Reader Stmt
read_simple_control text e =
    read_either (is NAME) (read_set_ctl text e)
    (read_either (is LOCK) (read_locking text)
    (read_either (is UNLOCK) (read_unlocking text)
    (read_either (is FORK) (read_forking text e)
    (read_either (is JOIN) (read_joining text e)
    (read_either (is BARRIER) (read_waiting text)
    (read_settling text))))))

-- those with blocks, or one without
unfoldable pub read_data_form : Text → Reader Expr → Option (Reader Stmt) → Reader Stmt
read_data_form text e inner = read_either (is WHEN) (read_branching WHEN When data_starts e inner) (read_simple_data text e)

unfoldable pub read_any_form : Text → Reader Expr → Option (Reader Stmt) → Reader Stmt → Reader Stmt
read_any_form text e inner data_statement =
    read_either (is WHILE) (read_looping e inner)
    (read_either (is IF) (read_branching IF If statement_starts e inner)
    (read_either (among simple_control_starts) (read_simple_control text e) data_statement))

-- with room for so many constructs that nest
unfoldable pub read_data_statement : Text → ℕ → Reader Stmt
read_data_statement text zero = read_data_form text (read_expression text zero) None
read_data_statement text (suc room) = read_data_form text (read_expression text (suc room)) (Some (read_data_statement text room))

unfoldable pub read_statement : Text → ℕ → Reader Stmt
read_statement text zero = read_any_form text (read_expression text zero) None (read_data_statement text zero)
read_statement text (suc room) =
    read_any_form text (read_expression text (suc room)) (Some (read_statement text room)) (read_data_statement text (suc room))
