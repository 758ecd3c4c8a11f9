-- The positions of the plain run as members of a fold.
use Rattle.std.specs.Prelude.{ℕ, ℤ, pos, List, [], Option, Some, None, slice_get}
use Rattle.task_ast.specs.declared.sync.SyncOp.TheVariants as sync
use Rattle.task_ast.specs.Fold.{Member}
use Rattle.task_ast.specs.meaning.Plain.{Subthread}

-- the position of the order as a member of a fold, with the mask of its attempt; a position past the order has no actions and
-- is never damaged, so it keeps to the footprint that its thread, beginning and child give: the registers of thread 0
abbrev pub member_of : ℤ → Option Subthread → Member
member_of mask None = record { thread = 0; begins = sync.End; child = None; actions = []; mask = pos 0 }
member_of mask (Some s) = record { thread = s.thread; begins = s.begins.sync; child = s.child; actions = s.actions; mask = mask }

-- the positions of an order as members of a fold
abbrev pub member_in : List Subthread → (masks : ℕ → ℤ) → ℕ → Member
member_in run masks p = member_of (masks p) (slice_get run p)
