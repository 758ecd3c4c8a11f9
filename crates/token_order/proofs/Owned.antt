-- How many locks there are after a synchronisation.
use Rattle.std.proofs.Common.{◌≡◌, ℕ, List, length, Option, Some, None, refl}
use Rattle.task_ast.specs.declared.sync.SyncOp.{SyncOp}
use Rattle.task_ast.specs.declared.sync.SyncOp.TheVariants as sync
use Rattle.task_ast.specs.meaning.Turn.{owners_after}
use Rattle.task_ast.proofs.IssuedTables.{length_set}

pub length-after : (op : SyncOp) (t : ℕ) (owners : List (Option ℕ)) → length (owners_after op t owners) ≡ length owners
length-after (sync.Lock l) t owners = length_set owners l (Some t)
length-after (sync.Unlock l) t owners = length_set owners l None
length-after sync.Start t owners = refl
length-after (sync.Fork task arguments) t owners = refl
length-after (sync.Join h) t owners = refl
length-after (sync.Barrier b) t owners = refl
length-after (sync.Settle register control) t owners = refl
length-after sync.End t owners = refl
length-after sync.BadIndex t owners = refl
length-after sync.Spent t owners = refl
