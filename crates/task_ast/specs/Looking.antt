-- What code that moves the token asks of a thread table.
use Rattle.std.specs.Prelude.{ℕ, suc, ℤ, pos, negsuc, Bool, true, false, cond, Option, Some, None, nat_lt}
use Rattle.task_ast.specs.declared.sync.Next.{Next}
use Rattle.task_ast.specs.meaning.Table.{Stand, Away, Released}
use Rattle.task_ast.specs.Table.{Seat, Table, next_of}
use Rattle.task_ast.specs.Turn.{Look, To, Unknown, NoThread}

-- where the token begins to look
abbrev pub start_of : Option ℕ → ℕ
start_of None = 0
start_of (Some t) = suc t

abbrev pub look_with : ℕ → Option Next → Look
look_with t None = Unknown t
look_with t (Some next) = To t next

-- the first thread that isn't known to have ended, with its next synchronisation
abbrev pub look_of : Table → Option ℕ → Look
look_of table None = NoThread
look_of table (Some t) = look_with t (next_of table t)

-- a seat whose thread began a subthread
abbrev pub begun : ℕ → Seat → Seat
begun issued seat = record { next = None; last = Some issued; passed = false; stand = Away }

-- the thread that a join names
abbrev pub joined_in : ℤ → ℕ → Option ℕ
joined_in (pos h) n = cond (nat_lt h n) (Some h) None
joined_in (negsuc h) n = None

-- whether a thread at a barrier was released
abbrev pub is_free_to_go : Stand → Bool
is_free_to_go Released = true
is_free_to_go _ = false
