-- What a synchronisation changes of the owners of locks, and the child that it makes.
use Rattle.std.specs.Prelude.{ℕ, Bool, true, false, List, Option, Some, None, slice_set}
use Rattle.task_ast.specs.declared.sync.SyncOp.{SyncOp}
use Rattle.task_ast.specs.declared.sync.SyncOp.TheVariants as sync
use Rattle.task_ast.specs.meaning.Table.{Stand, Away}

-- the owners after a lock is taken or given back
abbrev pub owners_after : SyncOp → ℕ → List (Option ℕ) → List (Option ℕ)
owners_after (sync.Lock l) t owners = slice_set owners l (Some t)
owners_after (sync.Unlock l) t owners = slice_set owners l None
owners_after _ t owners = owners

-- the number of a fork's child, where so many threads exist
abbrev pub child_of : SyncOp → ℕ → Option ℕ
child_of (sync.Fork task arguments) n = Some n
child_of _ n = None

-- whether a thread has not arrived at a barrier
abbrev pub is_away : Stand → Bool
is_away Away = true
is_away _ = false
