-- Heads, tasks and programs are read exactly.
use Prim.Native.String.{String}
use Rattle.std.proofs.Common.{ℕ, suc, List, [], ◌∷◌, refl}
use Rattle.task_ast.specs.declared.tree.Param.TheVariants.{Ctl, Reg}
use Rattle.task_ast.specs.meaning.Tree.{block, TaskText}
use Rattle.task_parser.specs.declared.classes.TheConstants.{NAME, REG, QUOTED, LOCK, BARRIER, RECORD, BY, FROM, FEED, TASK, VAR, ELSE, OPEN_BRACKET, CLOSE_BRACKET, OPEN_PAREN, CLOSE_PAREN, OPEN_BRACE, CLOSE_BRACE, COMMA, SEMICOLON}
use Rattle.task_parser.specs.inner.Classes.{among}
use Rattle.task_parser.specs.meaning.Words.{Form, Both, ◌▸◌, Made, many, perhaps, some, the, ◌◂◌, preceded, separated}
use Rattle.task_parser.specs.inner.Reading.{read_both, repeat, read_after, read_some, read_separated}
use Rattle.task_parser.specs.inner.Laws.{Sound, Complete}
use Rattle.task_parser.specs.meaning.Expressions.{Text, name, number}
use Rattle.task_parser.specs.meaning.Statements.{listed_in}
use Rattle.task_parser.specs.inner.StatementReaders.{or_empty, statement_starts, read_list}
use Rattle.task_parser.specs.meaning.Programs.{lock_head_of, barrier_head_of, record_head_of, feed_head_of, file_of, var_line_of, task_of, program_from, file, head, param, var_line, task, program}
use Rattle.task_parser.specs.inner.ProgramReaders.{read_file, read_sized, read_lock_head, read_barrier_head, read_from_file, read_record_head, read_feed_head, head_starts, param_starts, read_head, read_param, read_var_line, read_task_head, read_task, read_program}
use Rattle.task_parser.proofs.Exact.{sound_both, complete_both, sound_made, complete_made, parted_starts}
use Rattle.task_parser.proofs.ClassLists.{apart, IsOf}
use Rattle.task_parser.proofs.Forms.{Reads, MayRead, reads_the, reads_kind, reads_name, reads_register, reads_number, reads_made, may_read_made, reads_both, reads_more, reads_many, reads_perhaps, reads_mark, reads_after, reads_some, reads_separated, reads_either}
use Rattle.task_parser.proofs.Loop.{shortens_reads}
use Rattle.task_parser.proofs.Many.{Shortens}
use Rattle.task_parser.proofs.ReadStatements.{Plain, reads_titled, reads_statement}

reads_file : {room : ℕ} (text : Text) → Plain room (file text) (read_file text) (QUOTED ∷ [])
reads_file text = reads_made (file_of text) (reads_kind QUOTED refl)

reads_sized : {room : ℕ} (text : Text) (word : String) (n : ℕ) → IsOf word n → (opener : String) (o : ℕ) → IsOf opener o
    → (closer : String) (c : ℕ) → IsOf closer c → (after : String) (m : ℕ) → IsOf after m
    → Plain room (the word ▸ name text ◂ opener ▸ number ◂ closer ◂ after) (read_sized text n o c m) (n ∷ [])
unfolding read_sized
reads_sized text word n is opener o opens closer c closes after m so =
    reads_mark after m so refl (reads_mark closer c closes refl (reads_both (reads_titled text word n is opener o opens) reads_number refl))

-- in brackets
reads_bracketed : {room : ℕ} (text : Text) (word : String) (n : ℕ) → IsOf word n → (after : String) (m : ℕ) → IsOf after m
    → Plain room (the word ▸ name text ◂ "[" ▸ number ◂ "]" ◂ after) (read_sized text n OPEN_BRACKET CLOSE_BRACKET m) (n ∷ [])
reads_bracketed text word n is after m so = reads_sized text word n is "[" OPEN_BRACKET refl "]" CLOSE_BRACKET refl after m so

reads_lock_head : {room : ℕ} (text : Text)
    → Plain room (Made lock_head_of (the "lock" ▸ name text ◂ "[" ▸ number ◂ "]" ◂ ";")) (read_lock_head text) (LOCK ∷ [])
unfolding read_lock_head
reads_lock_head text = reads_made lock_head_of (reads_bracketed text "lock" LOCK refl ";" SEMICOLON refl)

reads_barrier_head : {room : ℕ} (text : Text)
    → Plain room (Made barrier_head_of (the "barrier" ▸ name text ◂ "(" ▸ number ◂ ")" ◂ ";")) (read_barrier_head text) (BARRIER ∷ [])
unfolding read_barrier_head
reads_barrier_head text =
    reads_made barrier_head_of (reads_sized text "barrier" BARRIER refl "(" OPEN_PAREN refl ")" CLOSE_PAREN refl ";" SEMICOLON refl)

reads_from_file : {room : ℕ} (text : Text)
    → MayRead room (perhaps (preceded "from" (file text))) (perhaps (preceded "from" (file text))) (read_from_file text) (FROM ∷ []) []
unfolding read_from_file
reads_from_file text = reads_perhaps (reads_after "from" FROM refl refl (reads_file text))

reads_record_head : {room : ℕ} (text : Text)
    → Plain room
    (Made record_head_of (the "record" ▸ name text ◂ "[" ▸ number ◂ "]" ◂ "by" ▸ name text ▸ perhaps (preceded "from" (file text)) ◂ ";"))
    (read_record_head text) (RECORD ∷ [])
unfolding read_record_head
reads_record_head text =
    reads_made record_head_of (reads_mark ";" SEMICOLON refl refl
    (reads_more (FROM ∷ []) (reads_both (reads_bracketed text "record" RECORD refl "by" BY refl) (reads_name text) refl)
    (reads_from_file text) refl refl refl refl))

reads_feed_head : {room : ℕ} (text : Text)
    → Plain room (Made feed_head_of (the "feed" ▸ name text ◂ "[" ▸ number ◂ "]" ◂ "from" ▸ file text ◂ ";")) (read_feed_head text) (FEED ∷ [])
unfolding read_feed_head
reads_feed_head text =
    reads_made feed_head_of (reads_mark ";" SEMICOLON refl refl
    (reads_both (reads_bracketed text "feed" FEED refl "from" FROM refl) (reads_file text) refl))

pub reads_head : {room : ℕ} (text : Text) → Plain room (head text) (read_head text) head_starts
unfolding read_head
reads_head text =
    reads_either head_starts (reads_lock_head text)
    (reads_either (BARRIER ∷ RECORD ∷ FEED ∷ []) (reads_barrier_head text)
    (reads_either (RECORD ∷ FEED ∷ []) (reads_record_head text) (reads_feed_head text) refl refl refl) refl refl refl) refl refl refl

pub reads_param : {room : ℕ} (text : Text) → Plain room (param text) (read_param text) param_starts
unfolding read_param
reads_param text =
    reads_either param_starts (reads_made Ctl (reads_name text)) (reads_made Reg (reads_register text)) refl refl refl

reads_params : {room : ℕ} (text : Text)
    → Reads room (separated "," (param text)) (separated "," (param text))
    (read_separated COMMA (read_param text)) param_starts (COMMA ∷ [])
reads_params text = reads_separated "," COMMA (COMMA ∷ []) refl refl refl refl refl (reads_param text)

reads_list : {room : ℕ} (text : Text)
    → MayRead room (listed_in (param text)) (listed_in (param text)) (read_list param_starts (read_param text)) param_starts (COMMA ∷ [])
unfolding read_list
reads_list text = may_read_made or_empty (reads_perhaps (reads_params text))

pub reads_var_line : {room : ℕ} (text : Text) → Plain room (var_line text) (read_var_line text) (VAR ∷ [])
unfolding read_var_line
reads_var_line text = reads_made var_line_of (reads_mark ";" SEMICOLON refl refl (reads_both (reads_the "var" VAR refl) (reads_params text) refl))

reads_task_head : {room : ℕ} (text : Text)
    → Plain room (the "task" ▸ name text ◂ "(" ▸ listed_in (param text) ◂ ")" ◂ "{") (read_task_head text) (TASK ∷ [])
unfolding read_task_head
reads_task_head text =
    let named = reads_titled text "task" TASK refl "(" OPEN_PAREN refl in
    reads_mark "{" OPEN_BRACE refl refl (reads_mark ")" CLOSE_PAREN refl refl
    (reads_more (NAME ∷ REG ∷ COMMA ∷ []) named (reads_list text) refl refl refl refl))

pub reads_task : (text : Text) (room height : ℕ)
    → Reads room (task text (suc (suc room))) (task text height) (read_task text room) (TASK ∷ []) []
unfolding read_task
reads_task text room height =
    let declared = reads_more (VAR ∷ []) (reads_task_head text) (reads_many (reads_var_line text) refl) refl refl refl refl in
    reads_made task_of (reads_mark "}" CLOSE_BRACE refl refl
    (reads_more (VAR ∷ ELSE ∷ statement_starts) declared
    (may_read_made block (reads_many (reads_statement text room height) refl)) refl refl refl refl))

-- ---- programs

reads_tasks : (text : Text) (room height : ℕ)
    → Reads room (some (task text (suc (suc room)))) (some (task text height))
    (read_some (among (TASK ∷ [])) (read_task text room)) (TASK ∷ []) (TASK ∷ [])
reads_tasks text room height = reads_some (TASK ∷ []) refl refl refl (reads_task text room height)

pub sound_program : (text : Text) (room : ℕ) → Sound room (program text (suc (suc room))) (read_program text room)
unfolding read_program
sound_program text room =
    let h : MayRead room (many (head text)) (many (head text)) (repeat (among head_starts) (read_head text)) head_starts [] =
    reads_many (reads_head text) refl in
    let t = reads_tasks text room 0 in
    let T : Form (List TaskText) = some (task text (suc (suc room))) in
    sound_made room program_from (Both (many (head text)) T)
    (read_both (repeat (among head_starts) (read_head text)) (read_some (among (TASK ∷ [])) (read_task text room)))
    (sound_both room (many (head text)) T (repeat (among head_starts) (read_head text))
    (read_some (among (TASK ∷ [])) (read_task text room)) h.sound t.sound t.inhabited)

pub complete_program : (text : Text) (room height : ℕ) → Complete room (program text height) (among (TASK ∷ [])) (read_program text room)
unfolding read_program
complete_program text room height =
    let h : MayRead room (many (head text)) (many (head text)) (repeat (among head_starts) (read_head text)) head_starts [] =
    reads_many (reads_head text) refl in
    let t = reads_tasks text room height in
    let T : Form (List TaskText) = some (task text height) in
    complete_made room program_from (Both (many (head text)) T) (among (TASK ∷ []))
    (read_both (repeat (among head_starts) (read_head text)) (read_some (among (TASK ∷ [])) (read_task text room)))
    (complete_both room (many (head text)) T (among head_starts) (among (TASK ∷ [])) (repeat (among head_starts) (read_head text))
    (read_some (among (TASK ∷ [])) (read_task text room)) (h.complete head_starts refl refl) t.complete
    (parted_starts (among (TASK ∷ [])) (among head_starts) (among (TASK ∷ [])) T t.starts (apart (TASK ∷ []) head_starts refl)))

-- ---- what is read of a list leaves less

pub head_shortens : (text : Text) → Shortens (read_head text)
head_shortens text = shortens_reads (reads_head {room = 0} text)

pub next_param_shortens : (text : Text) → Shortens (read_after COMMA (read_param text))
next_param_shortens text = shortens_reads (reads_after {room = 0} "," COMMA refl refl (reads_param text))

pub var_line_shortens : (text : Text) → Shortens (read_var_line text)
var_line_shortens text = shortens_reads (reads_var_line {room = 0} text)

pub task_shortens : (text : Text) (room : ℕ) → Shortens (read_task text room)
task_shortens text room = shortens_reads (reads_task text room 0)
