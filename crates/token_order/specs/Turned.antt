-- What a turn answers, by the rules of turns.
use Rattle.std.specs.Prelude.{◌≡◌, ◌⊎◌, ⊤, ℕ, pos, negsuc, Bool, true, false, not, cond, length, Option, Some, None, is_none, ◌+◌, nat_lt, unwrap_or, count_by, slice_get}
use Rattle.task_ast.specs.declared.sync.SyncOp.{SyncOp}
use Rattle.task_ast.specs.declared.sync.SyncOp.TheVariants as sync
use Rattle.task_ast.specs.Table.{is_known_end, owner_in, Table, next_of, waits_at}
use Rattle.task_ast.specs.meaning.Repeat.{Again, More, Done}
use Rattle.task_ast.specs.meaning.Table.{Stand, Away, Waits, Released, ring, is_settle}
use Rattle.task_ast.specs.Turn.{Turn, Issue, Needs, Ended, Look, To, Unknown, NoThread, look, stand_of, turn}
use Rattle.token_order.specs.declared.rules.Turn.{Turn as TurnHere}
use Rattle.token_order.specs.declared.rules.Turn.TheVariants as here

-- the thread that is issued with a settle
abbrev pub settling_in : Again Table Turn → Option ℕ
settling_in (Done (Issue t next child after)) = cond (is_settle next.sync) (Some t) None
settling_in _ = None

-- the thread that is found, where its next synchronisation isn't known
abbrev pub unknown_of : Look → Option ℕ
unknown_of (To t next) = None
unknown_of (Unknown t) = Some t
unknown_of NoThread = None

-- the thread that the token comes to, where its next synchronisation isn't known: then a turn needs that
abbrev pub needed_at : Table → Option ℕ
needed_at table = unknown_of (look table (ring table.token (length table.seats)))

-- the answer by the rules is this one, with this table after it; where no thread moves the table is as it was
abbrev pub Answered : Again Table Turn → Table → TurnHere → Table → Type 0
Answered answer before (here.Issue t next child) after = answer ≡ Done (Issue t next child after)
Answered answer before (here.Settles t) after = ⊥
Answered answer before here.Pass after = answer ≡ More after
Answered answer before (here.Needs t) after = (answer ≡ Done (Needs t)) × (after ≡ before)
Answered answer before (here.Ended e) after = (answer ≡ Done (Ended e)) × (after ≡ before)

-- one turn of a table answered this, and left that table; a settle is issued only where that is let, and else told
abbrev pub Turned : (cleared : Bool) → Table → TurnHere → Table → Type 0
Turned cleared before (here.Settles t) after = (cleared ≡ false) × (settling_in (turn before) ≡ Some t) × (after ≡ before)
Turned cleared before result after = ((cleared ≡ true) ⊎ (settling_in (turn before) ≡ None)) × Answered (turn before) before result after

-- all but an issue leave the room as it was
abbrev pub LeavesRoom : TurnHere → (before after : ℕ) → Type 0
LeavesRoom (here.Issue t next child) before after = ⊤
LeavesRoom _ before after = after ≡ before

abbrev pub is_issue : TurnHere → Bool
is_issue (here.Issue t next child) = true
is_issue _ = false

-- an issue uses up that a settle is let
abbrev pub cleared_after : TurnHere → Bool → Bool
cleared_after turn cleared = cond (is_issue turn) false cleared

-- whether a thread that stands so goes on at this barrier: it was released, or is the last of the stated number
abbrev pub goes_on : (barrier : ℕ) → Stand → Table → Bool
goes_on b Released table = true
goes_on b Waits table = false
goes_on b Away table = not (nat_lt (count_by (waits_at b) table.seats + 1) (unwrap_or (slice_get table.barriers b) 0))

-- whether the thread that is found goes on at this barrier
abbrev pub found_goes_on : (barrier : ℕ) → Look → Table → Bool
found_goes_on b (To t next) table = goes_on b (stand_of table t) table
found_goes_on b (Unknown t) table = goes_on b (stand_of table t) table
found_goes_on b NoThread table = true

-- whether the thread that the token comes to goes on at this barrier
abbrev pub goes_ahead : (barrier : ℕ) → Table → Bool
goes_ahead b table = found_goes_on b (look table (ring table.token (length table.seats))) table

-- whether the thread that the token comes to, which stands at it, may go on, as far as the owner of a lock, the thread that
-- is joined and a barrier are concerned
abbrev pub is_let : Table → SyncOp → Bool
is_let table (sync.Lock l) = is_none (owner_in table.owners l)
is_let table (sync.Join (pos h)) = is_known_end (next_of table h)
is_let table (sync.Join (negsuc h)) = false
is_let table (sync.Barrier b) = goes_ahead b table
is_let table _ = true
