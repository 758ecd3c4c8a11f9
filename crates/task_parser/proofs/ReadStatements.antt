-- Statements are read exactly. Each statement is a form by the words of the grammar, so each has one lemma by Forms,
-- with the words that it may begin with. What a block holds is read with one less of the room for nesting, and by no
-- reader where no room is left; the two main lemmas go by recursion on that room.
use Prim.Native.String.{String}
use Rattle.std.proofs.Common.{◌≡◌, ℕ, zero, suc, true, List, [], ◌∷◌, Option, Some, None, option_map, refl, inl, inr}
use Rattle.task_ast.specs.declared.tree.Atom.TheVariants as atoms
use Rattle.task_ast.specs.meaning.Tree.{Expr, Stmt, What, SetCtl, While, If, Lock, Unlock, Fork, Join, Barrier, Settle, SetReg, Read, Write, Print, When, Block, block}
use Rattle.task_parser.specs.declared.token.Kind.TheVariants as kinds
use Rattle.task_parser.specs.declared.classes.TheConstants.{NUM, NAME, REG, LOCK, UNLOCK, BARRIER, WHILE, IF, ELSE, FORK, INTO, JOIN, READ, WRITE, PRINT, WHEN, SETTLE, NOT, SELF, ROWS, OPEN_BRACKET, CLOSE_BRACKET, OPEN_PAREN, CLOSE_PAREN, OPEN_BRACE, CLOSE_BRACE, COMMA, SEMICOLON, ASSIGN}
use Rattle.task_parser.specs.meaning.Words.{Form, ◌▸◌, ◌∣◌, Made, many, perhaps, of_kind, the, ◌◂◌, preceded, separated}
use Rattle.task_parser.specs.inner.Reading.{Reader, read_the, read_after, read_separated}
use Rattle.task_parser.specs.declared.token.Token.{Token}
use Rattle.task_parser.specs.inner.Laws.{Inhabited}
use Rattle.task_parser.specs.meaning.Expressions.{Text, name_of, reg_name, name, register}
use Rattle.task_parser.specs.inner.ExpressionReaders.{starting, read_expression}
use Rattle.task_parser.specs.meaning.Statements.{set_of, of_one, of_two, of_three, listed_in, atom, block_of, else_block, data_form, control_form, data_statement, statement}
use Rattle.task_parser.specs.inner.StatementReaders.{or_empty, or_nothing, read_titled, data_starts, simple_control_starts, statement_starts, read_atom, read_indexed, read_worded, read_assigned, read_inner_block, read_block, read_else, read_set_ctl, read_looping, read_branching, read_locking, read_unlocking, read_list, read_into_name, read_into_reg, read_forked, read_forking, read_joining, read_waiting, read_settling, read_set_reg, read_reading, read_writing, read_printing, read_simple_data, read_simple_control, read_data_form, read_any_form, read_data_statement, read_statement}
use Rattle.task_parser.proofs.Exact.{inhabited_made}
use Rattle.task_parser.proofs.Many.{inhabited_many}
use Rattle.task_parser.proofs.ClassLists.{disjoint, subset, IsOf}
use Rattle.task_parser.proofs.Forms.{Reads, MayRead, Deeper, Implies, inside_with, reads_the, reads_kind, reads_name, reads_register, reads_number, reads_made, may_read_made, reads_both, reads_more, reads_many, reads_perhaps, reads_mark, reads_after, reads_separated, reads_either, reads_as, reads_opened, reads_wider, reads_shut}
use Rattle.task_parser.specs.declared.statements.Allowed.{Allowed}
use Rattle.task_parser.specs.declared.statements.Allowed.TheVariants.{All, Data}
use Rattle.task_parser.specs.inner.Gives.{read_allowed}
use Rattle.task_parser.proofs.Loop.{shortens_reads}
use Rattle.task_parser.proofs.Many.{Shortens}
use Rattle.task_parser.proofs.ReadExpressions.{going_on, reads_expression}

-- the forms of statements by what they hold
abbrev simple_data : Text → Form Expr → Form Stmt
simple_data text e =
    Made (set_of (reg_name text) SetReg) (of_kind kinds.Reg ◂ "=" ▸ e ◂ ";")
    ∣ Made (of_three Read) (the "read" ▸ name text ◂ "[" ▸ atom text ◂ "]" ◂ "into" ▸ register text ◂ ";")
    ∣ Made (of_three Write) (the "write" ▸ name text ◂ "[" ▸ atom text ◂ "]" ◂ "=" ▸ e ◂ ";")
    ∣ Made (of_one Print) (the "print" ▸ separated "," e ◂ ";")

abbrev simple_control : Text → Form Expr → Form Stmt
simple_control text e =
    Made (set_of (name_of text) SetCtl) (of_kind kinds.Name ◂ "=" ▸ e ◂ ";")
    ∣ Made (of_two Lock) (the "lock" ▸ name text ◂ "[" ▸ atom text ◂ "]" ◂ ";")
    ∣ Made (of_two Unlock) (the "unlock" ▸ name text ◂ "[" ▸ atom text ◂ "]" ◂ ";")
    ∣ Made (of_three Fork) (the "fork" ▸ name text ◂ "(" ▸ listed_in e ◂ ")" ▸ perhaps (preceded "into" (name text)) ◂ ";")
    ∣ Made (of_two Join) (the "join" ▸ e ▸ perhaps (preceded "into" (register text)) ◂ ";")
    ∣ Made (of_one Barrier) (the "barrier" ▸ name text ◂ ";")
    ∣ Made (of_two Settle) (the "settle" ▸ register text ◂ "into" ▸ name text ◂ ";")

abbrev while_form : Form Expr → Form Stmt → Form Stmt
while_form e s = Made (of_two While) (the "while" ▸ e ▸ block_of s)

abbrev if_form : Form Expr → Form Stmt → Form Stmt
if_form e s = Made (of_three If) (the "if" ▸ e ▸ block_of s ▸ else_block s)

abbrev when_form : Form Expr → Form Stmt → Form Stmt
when_form e d = Made (of_three When) (the "when" ▸ e ▸ block_of d ▸ else_block d)

abbrev Expressions : ℕ → Form Expr → Form Expr → Reader Expr → Type 0
Expressions room T P p = Reads room T P p starting going_on

-- a form of no recursion
abbrev pub Plain : {A : Type 0} → ℕ → Form A → Reader A → List ℕ → Type 0
Plain room P p first = Reads room P P p first []

pub reads_atom : {room : ℕ} (text : Text) → Plain room (atom text) (read_atom text) (NUM ∷ NAME ∷ [])
unfolding read_atom
reads_atom text =
    reads_either (NUM ∷ NAME ∷ []) (reads_made atoms.Num reads_number) (reads_made atoms.Var (reads_name text)) refl refl refl

-- a word, a name and a mark
pub reads_titled : {room : ℕ} (text : Text) (word : String) (n : ℕ) → IsOf word n → (mark : String) (m : ℕ) → IsOf mark m
    → Plain room (the word ▸ name text ◂ mark) (read_titled text n m) (n ∷ [])
reads_titled text word n is mark m so = reads_mark mark m so refl (reads_both (reads_the word n is) (reads_name text) refl)

reads_indexed : {room : ℕ} (text : Text) (word : String) (n : ℕ) → IsOf word n → (after : String) (m : ℕ) → IsOf after m
    → Plain room (the word ▸ name text ◂ "[" ▸ atom text ◂ "]" ◂ after) (read_indexed text n m) (n ∷ [])
unfolding read_indexed
reads_indexed text word n is after m so =
    reads_mark after m so refl (reads_mark "]" CLOSE_BRACKET refl refl
    (reads_both (reads_titled text word n is "[" OPEN_BRACKET refl) (reads_atom text) refl))

-- a word and an expression
reads_worded : {room : ℕ} {T P : Form Expr} {p : Reader Expr} (word : String) (n : ℕ) → IsOf word n → Expressions room T P p
    → Reads room (the word ▸ T) (the word ▸ P) (read_worded n p) (n ∷ []) going_on
unfolding read_worded
reads_worded word n is e = reads_both (reads_the word n is) e refl

-- a variable is set
reads_assigned : {room : ℕ} {V : Form Token} {T P : Form Expr} {p : Reader Expr} (n : ℕ) → Plain room V (read_the n) (n ∷ [])
    → Expressions room T P p → Reads room (V ◂ "=" ▸ T ◂ ";") (V ◂ "=" ▸ P ◂ ";") (read_assigned n p) (n ∷ []) []
unfolding read_assigned
reads_assigned n v e = reads_mark ";" SEMICOLON refl refl (reads_both (reads_mark "=" ASSIGN refl refl v) e refl)

-- ---- blocks

-- statements that begin with these words, and that an `else` could go on with
abbrev Nested : ℕ → Form Stmt → Form Stmt → Option (Reader Stmt) → List ℕ → Type 0
Nested room T P inner starts = Deeper room T P inner starts (ELSE ∷ [])

-- what sets a statement's beginning apart from what ends a block
record Closes (starts : List ℕ) : Type 0 where
  apart : disjoint starts (ELSE ∷ []) ≡ true
  covered : subset starts (ELSE ∷ starts) ≡ true
  closed : disjoint (CLOSE_BRACE ∷ []) (ELSE ∷ starts) ≡ true

reads_block : (room : ℕ) (T P : Form Stmt) (inner : Option (Reader Stmt)) (starts : List ℕ) → Closes starts → Nested room T P inner starts
    → Reads room (block_of T) (block_of P) (read_block starts inner) (OPEN_BRACE ∷ []) []
unfolding read_block
reads_block room T P inner starts k h =
    reads_mark "}" CLOSE_BRACE refl k.closed (reads_opened "{" OPEN_BRACE refl room (option_map (read_inner_block starts) inner)
    (inside_with room T P (Made block (many T)) (Made block (many P)) (read_inner_block starts) inner (ELSE ∷ starts)
    (λ full. inhabited_made block (many T) (inhabited_many T))
    (λ r s reads. let m = may_read_made block (reads_many reads k.apart) in (m.sound, m.complete (ELSE ∷ starts) refl k.covered)) h))

reads_else : (room : ℕ) (T P : Form Stmt) (inner : Option (Reader Stmt)) (starts : List ℕ) → Closes starts → Nested room T P inner starts
    → MayRead room (else_block T) (else_block P) (read_else starts inner) (ELSE ∷ []) []
unfolding read_else
reads_else room T P inner starts k h =
    may_read_made or_nothing (reads_perhaps (reads_after "else" ELSE refl refl (reads_block room T P inner starts k h)))

data_closes : Closes data_starts
data_closes = record { apart = refl; covered = refl; closed = refl }

closes : Closes statement_starts
closes = record { apart = refl; covered = refl; closed = refl }

-- ---- data statements

reads_set_reg : {room : ℕ} {T P : Form Expr} {p : Reader Expr} (text : Text) → Expressions room T P p
    → Reads room (Made (set_of (reg_name text) SetReg) (of_kind kinds.Reg ◂ "=" ▸ T ◂ ";"))
    (Made (set_of (reg_name text) SetReg) (of_kind kinds.Reg ◂ "=" ▸ P ◂ ";")) (read_set_reg text p) (REG ∷ []) []
unfolding read_set_reg
reads_set_reg text e = reads_made (set_of (reg_name text) SetReg) (reads_assigned REG (reads_kind REG refl) e)

reads_reading : {room : ℕ} (text : Text) → Plain room (Made (of_three Read) (the "read" ▸ name text ◂ "[" ▸ atom text ◂ "]" ◂ "into" ▸ register text ◂ ";")) (read_reading text) (READ ∷ [])
unfolding read_reading
reads_reading text =
    reads_made (of_three Read) (reads_mark ";" SEMICOLON refl refl (reads_both (reads_indexed text "read" READ refl "into" INTO refl) (reads_register text) refl))

reads_writing : {room : ℕ} {T P : Form Expr} {p : Reader Expr} (text : Text) → Expressions room T P p
    → Reads room (Made (of_three Write) (the "write" ▸ name text ◂ "[" ▸ atom text ◂ "]" ◂ "=" ▸ T ◂ ";"))
    (Made (of_three Write) (the "write" ▸ name text ◂ "[" ▸ atom text ◂ "]" ◂ "=" ▸ P ◂ ";")) (read_writing text p) (WRITE ∷ []) []
unfolding read_writing
reads_writing text e =
    reads_made (of_three Write) (reads_mark ";" SEMICOLON refl refl (reads_both (reads_indexed text "write" WRITE refl "=" ASSIGN refl) e refl))

reads_exprs : {room : ℕ} {T P : Form Expr} {p : Reader Expr} → Expressions room T P p
    → Reads room (separated "," T) (separated "," P) (read_separated COMMA p) starting (COMMA ∷ going_on)
reads_exprs e = reads_separated "," COMMA (COMMA ∷ going_on) refl refl refl refl refl e

reads_printing : {room : ℕ} {T P : Form Expr} {p : Reader Expr} → Expressions room T P p
    → Reads room (Made (of_one Print) (the "print" ▸ separated "," T ◂ ";"))
    (Made (of_one Print) (the "print" ▸ separated "," P ◂ ";")) (read_printing p) (PRINT ∷ []) []
unfolding read_printing
reads_printing e = reads_made (of_one Print) (reads_mark ";" SEMICOLON refl refl (reads_both (reads_the "print" PRINT refl) (reads_exprs e) refl))

reads_branching : {T P : Form Expr} {p : Reader Expr} (room : ℕ) (U Q : Form Stmt) (inner : Option (Reader Stmt)) (word : String) (n : ℕ)
    → IsOf word n → (make : Expr → Block → Block → What) (starts : List ℕ) → Closes starts → Expressions room T P p
    → Nested room U Q inner starts → Reads room (Made (of_three make) (the word ▸ T ▸ block_of U ▸ else_block U))
    (Made (of_three make) (the word ▸ P ▸ block_of Q ▸ else_block Q)) (read_branching n make starts p inner) (n ∷ []) (ELSE ∷ [])
unfolding read_branching
reads_branching room U Q inner word n is make starts k e h =
    reads_made (of_three make) (reads_more (ELSE ∷ []) (reads_both (reads_worded word n is e) (reads_block room U Q inner starts k h) refl)
    (reads_else room U Q inner starts k h) refl refl refl refl)

wide : {room : ℕ} {U Q : Form Stmt} {q : Reader Stmt} {first : List ℕ} → Reads room U Q q first [] → Reads room U Q q first (ELSE ∷ [])
wide k = reads_wider (ELSE ∷ []) refl k

reads_simple_data : {room : ℕ} {T P : Form Expr} {p : Reader Expr} (text : Text) → Expressions room T P p
    → Reads room (simple_data text T) (simple_data text P) (read_simple_data text p) (REG ∷ READ ∷ WRITE ∷ PRINT ∷ []) (ELSE ∷ [])
unfolding read_simple_data
reads_simple_data text e =
    reads_either (REG ∷ READ ∷ WRITE ∷ PRINT ∷ []) (wide (reads_set_reg text e))
    (reads_either (READ ∷ WRITE ∷ PRINT ∷ []) (wide (reads_reading text))
    (reads_either (WRITE ∷ PRINT ∷ []) (wide (reads_writing text e)) (wide (reads_printing e)) refl refl refl) refl refl refl) refl refl refl

-- the reader asks for the branch first, and the grammar has it last
branch_last : (text : Text) (e : Form Expr) (d : Form Stmt) → Implies (when_form e d ∣ simple_data text e) (data_form text e d)
branch_last text e d depth used value (inl h) = inr (inr (inr (inr h)))
branch_last text e d depth used value (inr (inl h)) = inl h
branch_last text e d depth used value (inr (inr (inl h))) = inr (inl h)
branch_last text e d depth used value (inr (inr (inr (inl h)))) = inr (inr (inl h))
branch_last text e d depth used value (inr (inr (inr (inr h)))) = inr (inr (inr (inl h)))

branch_first : (text : Text) (e : Form Expr) (d : Form Stmt) → Implies (data_form text e d) (when_form e d ∣ simple_data text e)
branch_first text e d depth used value (inl h) = inr (inl h)
branch_first text e d depth used value (inr (inl h)) = inr (inr (inl h))
branch_first text e d depth used value (inr (inr (inl h))) = inr (inr (inr (inl h)))
branch_first text e d depth used value (inr (inr (inr (inl h)))) = inr (inr (inr (inr h)))
branch_first text e d depth used value (inr (inr (inr (inr h)))) = inl h

reads_data_form : {T P : Form Expr} {p : Reader Expr} (text : Text) (room : ℕ) (U Q : Form Stmt) (inner : Option (Reader Stmt))
    → Expressions room T P p → Nested room U Q inner data_starts
    → Reads room (data_form text T U) (data_form text P Q) (read_data_form text p inner) data_starts (ELSE ∷ [])
unfolding read_data_form
reads_data_form {T = T} {P = P} text room U Q inner e h =
    reads_as (branch_last text T U) (branch_first text T U) (branch_first text P Q)
    (reads_either data_starts (reads_branching room U Q inner "when" WHEN refl When data_starts data_closes e h)
    (reads_simple_data text e) refl refl refl)

inhabited_data : (text : Text) (height : ℕ) → Inhabited (data_statement text (suc height))
inhabited_data text height =
    λ depth. let r : Reads 0 _ (Made (of_three Read) (the "read" ▸ name text ◂ "[" ▸ atom text ◂ "]" ◂ "into" ▸ register text ◂ ";")) (read_reading text) (READ ∷ []) [] =
    reads_reading text in let a = r.inhabited depth in
    (a.0, a.1, inr (inl a.2))

pub reads_data_statement : (text : Text) (room height : ℕ)
    → Reads room (data_statement text (suc (suc room))) (data_statement text height) (read_data_statement text room) data_starts (ELSE ∷ [])
unfolding read_data_statement
reads_data_statement text zero zero =
    reads_shut (reads_data_form text zero (data_statement text 1) (data_statement text 0) None (reads_expression text 0 0)
    (inhabited_data text 0))
reads_data_statement text zero (suc height) =
    reads_data_form text zero (data_statement text 1) (data_statement text height) None
    (reads_expression text 0 (suc height)) (inhabited_data text 0)
reads_data_statement text (suc room) zero =
    reads_shut (reads_data_form text (suc room) (data_statement text (suc (suc room))) (data_statement text 0)
    (Some (read_data_statement text room)) (reads_expression text (suc room) 0) (reads_data_statement text room 0))
reads_data_statement text (suc room) (suc height) =
    reads_data_form text (suc room) (data_statement text (suc (suc room))) (data_statement text height)
    (Some (read_data_statement text room)) (reads_expression text (suc room) (suc height)) (reads_data_statement text room height)

-- ---- other statements

reads_set_ctl : {room : ℕ} {T P : Form Expr} {p : Reader Expr} (text : Text) → Expressions room T P p
    → Reads room (Made (set_of (name_of text) SetCtl) (of_kind kinds.Name ◂ "=" ▸ T ◂ ";"))
    (Made (set_of (name_of text) SetCtl) (of_kind kinds.Name ◂ "=" ▸ P ◂ ";")) (read_set_ctl text p) (NAME ∷ []) []
unfolding read_set_ctl
reads_set_ctl text e = reads_made (set_of (name_of text) SetCtl) (reads_assigned NAME (reads_kind NAME refl) e)

reads_looping : {T P : Form Expr} {p : Reader Expr} (room : ℕ) (U Q : Form Stmt) (inner : Option (Reader Stmt)) → Expressions room T P p
    → Nested room U Q inner statement_starts → Reads room (Made (of_two While) (the "while" ▸ T ▸ block_of U)) (Made (of_two While) (the "while" ▸ P ▸ block_of Q))
    (read_looping p inner) (WHILE ∷ []) []
unfolding read_looping
reads_looping room U Q inner e h =
    reads_made (of_two While) (reads_both (reads_worded "while" WHILE refl e) (reads_block room U Q inner statement_starts closes h) refl)

reads_locking : {room : ℕ} (text : Text) → Plain room (Made (of_two Lock) (the "lock" ▸ name text ◂ "[" ▸ atom text ◂ "]" ◂ ";")) (read_locking text) (LOCK ∷ [])
unfolding read_locking
reads_locking text = reads_made (of_two Lock) (reads_indexed text "lock" LOCK refl ";" SEMICOLON refl)

reads_unlocking : {room : ℕ} (text : Text) → Plain room (Made (of_two Unlock) (the "unlock" ▸ name text ◂ "[" ▸ atom text ◂ "]" ◂ ";")) (read_unlocking text) (UNLOCK ∷ [])
unfolding read_unlocking
reads_unlocking text = reads_made (of_two Unlock) (reads_indexed text "unlock" UNLOCK refl ";" SEMICOLON refl)

reads_list : {room : ℕ} {T P : Form Expr} {p : Reader Expr} → Expressions room T P p
    → MayRead room (listed_in T) (listed_in P) (read_list starting p) starting (COMMA ∷ going_on)
unfolding read_list
reads_list e = may_read_made or_empty (reads_perhaps (reads_exprs e))

reads_into_name : {room : ℕ} (text : Text) → MayRead room (perhaps (preceded "into" (name text))) (perhaps (preceded "into" (name text))) (read_into_name text) (INTO ∷ []) []
unfolding read_into_name
reads_into_name text = reads_perhaps (reads_after "into" INTO refl refl (reads_name text))

reads_into_reg : {room : ℕ} (text : Text) → MayRead room (perhaps (preceded "into" (register text))) (perhaps (preceded "into" (register text))) (read_into_reg text) (INTO ∷ []) []
unfolding read_into_reg
reads_into_reg text = reads_perhaps (reads_after "into" INTO refl refl (reads_register text))

reads_forked : {room : ℕ} {T P : Form Expr} {p : Reader Expr} (text : Text) → Expressions room T P p
    → Reads room (the "fork" ▸ name text ◂ "(" ▸ listed_in T ◂ ")") (the "fork" ▸ name text ◂ "(" ▸ listed_in P ◂ ")")
    (read_forked text p) (FORK ∷ []) []
unfolding read_forked
reads_forked text e =
    let opened = reads_titled text "fork" FORK refl "(" OPEN_PAREN refl in
    reads_mark ")" CLOSE_PAREN refl refl
    (reads_more (NOT ∷ NUM ∷ NAME ∷ REG ∷ SELF ∷ ROWS ∷ OPEN_PAREN ∷ COMMA ∷ going_on) opened (reads_list e) refl refl refl refl)

reads_forking : {room : ℕ} {T P : Form Expr} {p : Reader Expr} (text : Text) → Expressions room T P p
    → Reads room (Made (of_three Fork) (the "fork" ▸ name text ◂ "(" ▸ listed_in T ◂ ")" ▸ perhaps (preceded "into" (name text)) ◂ ";"))
    (Made (of_three Fork) (the "fork" ▸ name text ◂ "(" ▸ listed_in P ◂ ")" ▸ perhaps (preceded "into" (name text)) ◂ ";")) (read_forking text p) (FORK ∷ []) []
unfolding read_forking
reads_forking text e =
    reads_made (of_three Fork) (reads_mark ";" SEMICOLON refl refl
    (reads_more (INTO ∷ []) (reads_forked text e) (reads_into_name text) refl refl refl refl))

reads_joining : {room : ℕ} {T P : Form Expr} {p : Reader Expr} (text : Text) → Expressions room T P p
    → Reads room (Made (of_two Join) (the "join" ▸ T ▸ perhaps (preceded "into" (register text)) ◂ ";"))
    (Made (of_two Join) (the "join" ▸ P ▸ perhaps (preceded "into" (register text)) ◂ ";")) (read_joining text p) (JOIN ∷ []) []
unfolding read_joining
reads_joining text e =
    reads_made (of_two Join) (reads_mark ";" SEMICOLON refl refl
    (reads_more (INTO ∷ going_on) (reads_worded "join" JOIN refl e) (reads_into_reg text) refl refl refl refl))

reads_waiting : {room : ℕ} (text : Text) → Plain room (Made (of_one Barrier) (the "barrier" ▸ name text ◂ ";")) (read_waiting text) (BARRIER ∷ [])
unfolding read_waiting
reads_waiting text = reads_made (of_one Barrier) (reads_titled text "barrier" BARRIER refl ";" SEMICOLON refl)

reads_settling : {room : ℕ} (text : Text) → Plain room (Made (of_two Settle) (the "settle" ▸ register text ◂ "into" ▸ name text ◂ ";")) (read_settling text) (SETTLE ∷ [])
unfolding read_settling
reads_settling text =
    reads_made (of_two Settle) (reads_mark ";" SEMICOLON refl refl
    (reads_both (reads_mark "into" INTO refl refl (reads_both (reads_the "settle" SETTLE refl) (reads_register text) refl)) (reads_name text) refl))

reads_simple_control : {room : ℕ} {T P : Form Expr} {p : Reader Expr} (text : Text) → Expressions room T P p
    → Reads room (simple_control text T) (simple_control text P) (read_simple_control text p) simple_control_starts (ELSE ∷ [])
unfolding read_simple_control
reads_simple_control text e =
    reads_either simple_control_starts (wide (reads_set_ctl text e))
    (reads_either (LOCK ∷ UNLOCK ∷ FORK ∷ JOIN ∷ BARRIER ∷ SETTLE ∷ []) (wide (reads_locking text))
    (reads_either (UNLOCK ∷ FORK ∷ JOIN ∷ BARRIER ∷ SETTLE ∷ []) (wide (reads_unlocking text))
    (reads_either (FORK ∷ JOIN ∷ BARRIER ∷ SETTLE ∷ []) (wide (reads_forking text e))
    (reads_either (JOIN ∷ BARRIER ∷ SETTLE ∷ []) (wide (reads_joining text e))
    (reads_either (BARRIER ∷ SETTLE ∷ []) (wide (reads_waiting text)) (wide (reads_settling text)) refl refl refl) refl refl refl) refl refl
    refl) refl refl refl) refl refl refl) refl refl refl

-- the reader asks for the statements with blocks first
blocks_within : (text : Text) (e : Form Expr) (s d : Form Stmt) → Implies (while_form e s ∣ if_form e s ∣ simple_control text e ∣ d) (control_form text e s ∣ d)
blocks_within text e s d depth used value (inl h) = inl (inr (inl h))
blocks_within text e s d depth used value (inr (inl h)) = inl (inr (inr (inl h)))
blocks_within text e s d depth used value (inr (inr (inl (inl h)))) = inl (inl h)
blocks_within text e s d depth used value (inr (inr (inl (inr h)))) = inl (inr (inr (inr h)))
blocks_within text e s d depth used value (inr (inr (inr h))) = inr h

blocks_first : (text : Text) (e : Form Expr) (s d : Form Stmt) → Implies (control_form text e s ∣ d) (while_form e s ∣ if_form e s ∣ simple_control text e ∣ d)
blocks_first text e s d depth used value (inl (inl h)) = inr (inr (inl (inl h)))
blocks_first text e s d depth used value (inl (inr (inl h))) = inl h
blocks_first text e s d depth used value (inl (inr (inr (inl h)))) = inr (inl h)
blocks_first text e s d depth used value (inl (inr (inr (inr h)))) = inr (inr (inl (inr h)))
blocks_first text e s d depth used value (inr h) = inr (inr (inr h))

inhabited_statement : (text : Text) (height : ℕ) → Inhabited (statement text (suc height))
inhabited_statement text height = λ depth. let a = inhabited_data text height depth in (a.0, a.1, inr a.2)

reads_any_form : {T P : Form Expr} {p : Reader Expr} (text : Text) (room : ℕ) (U Q V R : Form Stmt) (inner : Option (Reader Stmt))
    (d : Reader Stmt) → Expressions room T P p → Nested room U Q inner statement_starts → Reads room V R d data_starts (ELSE ∷ [])
    → Reads room (control_form text T U ∣ V) (control_form text P Q ∣ R) (read_any_form text p inner d) statement_starts (ELSE ∷ [])
unfolding read_any_form
reads_any_form {T = T} {P = P} text room U Q V R inner d e h k =
    reads_as (blocks_within text T U V) (blocks_first text T U V) (blocks_first text P Q R)
    (reads_either statement_starts (wide (reads_looping room U Q inner e h))
    (reads_either (IF ∷ NAME ∷ LOCK ∷ UNLOCK ∷ FORK ∷ JOIN ∷ BARRIER ∷ SETTLE ∷ data_starts)
    (reads_branching room U Q inner "if" IF refl If statement_starts closes e h)
    (reads_either (NAME ∷ LOCK ∷ UNLOCK ∷ FORK ∷ JOIN ∷ BARRIER ∷ SETTLE ∷ data_starts) (reads_simple_control text e) k refl refl refl)
    refl refl refl) refl refl refl)

pub reads_statement : (text : Text) (room height : ℕ)
    → Reads room (statement text (suc (suc room))) (statement text height) (read_statement text room) statement_starts (ELSE ∷ [])
unfolding read_statement
reads_statement text zero zero =
    reads_shut (reads_any_form text zero (statement text 1) (statement text 0) (data_statement text 2) (data_statement text 0) None
    (read_data_statement text 0) (reads_expression text 0 0) (inhabited_statement text 0) (reads_data_statement text 0 0))
reads_statement text zero (suc height) =
    reads_any_form text zero (statement text 1) (statement text height) (data_statement text 2)
    (data_statement text (suc height)) None (read_data_statement text 0) (reads_expression text 0 (suc height))
    (inhabited_statement text 0) (reads_data_statement text 0 (suc height))
reads_statement text (suc room) zero =
    reads_shut (reads_any_form text (suc room) (statement text (suc (suc room))) (statement text 0)
    (data_statement text (suc (suc (suc room)))) (data_statement text 0) (Some (read_statement text room))
    (read_data_statement text (suc room)) (reads_expression text (suc room) 0) (reads_statement text room 0)
    (reads_data_statement text (suc room) 0))
reads_statement text (suc room) (suc height) =
    reads_any_form text (suc room) (statement text (suc (suc room))) (statement text height)
    (data_statement text (suc (suc (suc room)))) (data_statement text (suc height)) (Some (read_statement text room))
    (read_data_statement text (suc room)) (reads_expression text (suc room) (suc height)) (reads_statement text room height)
    (reads_data_statement text (suc room) (suc height))

-- ---- what is read of a list leaves less

pub next_shortens : (text : Text) (room : ℕ) → Shortens (read_after COMMA (read_expression text room))
next_shortens text room = shortens_reads (reads_after "," COMMA refl refl (reads_expression text room 0))

pub statement_shortens : (allowed : Allowed) (text : Text) (room : ℕ) → Shortens (read_allowed allowed text room)
statement_shortens All text room = shortens_reads (reads_statement text room 0)
statement_shortens Data text room = shortens_reads (reads_data_statement text room 0)
