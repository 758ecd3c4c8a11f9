-- The lines that show the order of a run: one for each subthread, and one for the end.
use Rattle.std.specs.Prelude.{ℕ, suc, ◌-◌, List, [], ◌∷◌, ◌++◌, Option, Some, None, length, codes, decimal, flat_map, nat_lt, slice_get, unwrap_or, if◌then◌else◌, map}
use Rattle.std.specs.Fmt.{signed_decimal}
use Rattle.gp_base.specs.declared.ending.End.{End}
use Rattle.gp_base.specs.declared.ending.End.TheVariants.{Finished, Stuck, Spent}
use Rattle.task_ast.specs.declared.sync.SyncOp.{SyncOp}
use Rattle.task_ast.specs.declared.sync.SyncOp.TheVariants as sync
use Rattle.task_ast.specs.declared.tree.Head.{Head}
use Rattle.task_ast.specs.meaning.Tree.{Name}
use Rattle.task_ast.specs.meaning.Names.{locks_of, barriers_of}
use Rattle.task_ast.specs.meaning.Plain.{Subthread}
use Rattle.restart_log.specs.meaning.Tail.{why_word}

-- a cell of an array
abbrev pub cell_text : (array : Name) → (index : ℕ) → List ℕ
cell_text array index = array ++ codes "[" ++ decimal index ++ codes "]"

-- a cell of these arrays, by its number among the cells of all
abbrev pub cell_name : List (Name × ℕ) → (cell : ℕ) → List ℕ
cell_name [] cell = []
cell_name (array ∷ arrays) cell = if nat_lt cell array.1 then cell_text array.0 cell else cell_name arrays (cell - array.1)

-- a barrier by its number
abbrev pub barrier_name : List (Name × ℕ) → (barrier : ℕ) → List ℕ
barrier_name barriers barrier = unwrap_or (slice_get (map (λ n. n.0) barriers) barrier) []

-- the number of a thread, where there is one
abbrev pub thread_text : Option ℕ → List ℕ
thread_text None = []
thread_text (Some thread) = decimal thread

-- the synchronisation that a subthread begins with, and by which it has this child; no subthread begins with one of the last three
abbrev pub sync_text : List Head → SyncOp → (child : Option ℕ) → List ℕ
sync_text heads sync.Start child = codes "start"
sync_text heads (sync.Lock lock) child = codes "lock " ++ cell_name (locks_of heads) lock
sync_text heads (sync.Unlock lock) child = codes "unlock " ++ cell_name (locks_of heads) lock
sync_text heads (sync.Fork task arguments) child = codes "fork " ++ thread_text child
sync_text heads (sync.Join thread) child = codes "join " ++ signed_decimal thread
sync_text heads (sync.Barrier barrier) child = codes "barrier " ++ barrier_name (barriers_of heads) barrier
sync_text heads (sync.Settle register control) child = codes "settle"
sync_text heads sync.End child = []
sync_text heads sync.BadIndex child = []
sync_text heads sync.Spent child = []

-- the locks that a subthread holds, each after a space
abbrev pub held_text : List Head → (held : List ℕ) → List ℕ
held_text heads held = flat_map (λ lock. codes " " ++ cell_name (locks_of heads) lock) held

-- the line of a subthread at its position: its thread, how it begins and at which line of the program, how many lines it prints, and what
-- it holds
abbrev pub order_line : List Head → (position : ℕ) → Subthread → List ℕ
order_line heads position s =
    decimal position ++ codes " thread " ++ decimal s.thread ++ codes " line " ++ decimal s.begins.line ++ codes " "
    ++ sync_text heads s.begins.sync s.child
    ++ codes " prints " ++ decimal (length s.lines) ++ codes " holds" ++ held_text heads s.held ++ codes "\n"

-- the lines of subthreads, the first of which is at this position
abbrev pub order_lines : List Head → (position : ℕ) → List Subthread → List ℕ
order_lines heads position [] = []
order_lines heads position (s ∷ run) = order_line heads position s ++ order_lines heads (suc position) run

-- how the run ends
abbrev pub end_line : End → List ℕ
end_line Finished = codes "end finished\n"
end_line (Stuck why thread line) =
    codes "end stuck " ++ why_word why ++ codes " thread " ++ decimal thread ++ codes " line " ++ decimal line ++ codes "\n"
end_line (Spent position) = codes "end spent " ++ decimal position ++ codes "\n"
