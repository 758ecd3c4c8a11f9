-- What code asks of a synchronisation.
use Rattle.std.specs.Prelude.{◌<◌, ◌^◌, ℕ, pos, Bool, true, false, Option, Some, None, ⊤}
use Rattle.task_ast.specs.declared.sync.SyncOp.{SyncOp}
use Rattle.task_ast.specs.declared.sync.SyncOp.TheVariants as sync

-- whether a thread starts with it
abbrev pub is_start : SyncOp → Bool
is_start sync.Start = true
is_start _ = false

-- the thread that it joins
abbrev pub joined_by : SyncOp → Option ℕ
joined_by (sync.Join (pos t)) = Some t
joined_by _ = None

-- the thread that a join names has a number of 32 bits, or none
abbrev pub IsNumbered : SyncOp → Type 0
IsNumbered (sync.Join (pos h)) = h < 2 ^ 32
IsNumbered _ = ⊤
