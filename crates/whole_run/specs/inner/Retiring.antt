-- Whether the oldest entry may retire, as far as the entries tell.
use Rattle.std.specs.Prelude.{ℕ, ℤ, ◌+◌, ◌-◌, Bool, false, true, ◌&&◌, ◌||◌, nat_le, List, [], Option, Some, None, is_none, slice_get}
use Rattle.gp_base.specs.declared.limits.TheConstants.{LONGEST_DELAY}
use Rattle.gp_base.specs.declared.fault.Fault.{Fault}
use Rattle.dependence.specs.meaning.Restarts.{least_struck}
use Rattle.reorder_list.specs.declared.entry.Entry.{Entry}
use Rattle.reorder_list.specs.Entries.{is_applied, entry_at}
use Rattle.whole_run.specs.declared.recovery.Recovery.{Recovery}
use Rattle.whole_run.specs.declared.recovery.Recovery.TheVariants.{Selective, Rollback}
use Rattle.rollback.specs.Driving.{multiple_at}
use Rattle.whole_run.specs.inner.Striking.{strikes}

-- no fault strikes, if any is tried or those that are due
abbrev pub none_strikes : (any : Bool) → List Entry → (front : ℕ) → List Fault → Bool
none_strikes any entries front faults = is_none (least_struck (strikes any entries front) faults)

-- no fault can come that strikes what began then
abbrev pub is_old : (begun front : ℕ) → Bool
is_old begun front = nat_le (begun + LONGEST_DELAY) front

abbrev pub entry_is_old : (front : ℕ) → Option Entry → Bool
entry_is_old front None = false
entry_is_old front (Some e) = is_old e.begun front

-- the multiple of a number that comes next above a position
abbrev pub next_multiple : (every position : ℕ) → ℕ
next_multiple every p = multiple_at every p + every

-- the block of the oldest position is applied to its end, and no fault can come that strikes its last
abbrev pub block_is_safe : (every : ℕ) → List Entry → (whole oldest front : ℕ) → Bool
block_is_safe every entries whole oldest front =
    nat_le (next_multiple every oldest) whole && entry_is_old front (entry_at entries (next_multiple every oldest - 1))

abbrev pub is_safe : Recovery → List Entry → (whole : ℕ) → Entry → (front : ℕ) → Bool
is_safe Selective entries whole e front = is_old e.begun front
is_safe (Rollback every) entries whole e front = block_is_safe every entries whole e.pos front

-- the entry is applied, none is struck, and none that may still come strikes it
abbrev pub entry_retires : Recovery → (known : Bool) → List Entry → (whole front : ℕ) → List Fault → Option Entry → Bool
entry_retires recovery known entries whole front faults None = false
entry_retires recovery known entries whole front faults (Some e) =
    is_applied e.state && (none_strikes false entries front faults
    && (is_safe recovery entries whole e front || (known && none_strikes true entries front faults)))

abbrev pub oldest_retires : Recovery → (known : Bool) → List Entry → (whole front : ℕ) → List Fault → Bool
oldest_retires recovery known entries whole front faults = entry_retires recovery known entries whole front faults (slice_get entries 0)

-- the lines of the oldest entry
abbrev pub lines_of_entry : Option Entry → List (List ℤ)
lines_of_entry None = []
lines_of_entry (Some e) = e.prints

abbrev pub oldest_lines : List Entry → List (List ℤ)
oldest_lines entries = lines_of_entry (slice_get entries 0)
