-- Which entries may be posted.
use Rattle.std.specs.Prelude.{◌≡◌, ◌<◌, ◌≤◌, ℕ, List, Some}
use Rattle.dependence.specs.Conflict.{Conflict}
use Rattle.reorder_list.specs.declared.entry.Entry.{Entry}
use Rattle.reorder_list.specs.declared.entry.State.TheVariants.{Waiting, Applied}
use Rattle.reorder_list.specs.Entries.{entry_at}

-- an earlier entry that is in conflict by locks with the later one is applied
abbrev pub LetsPass : (earlier later : Entry) → Type 0
LetsPass earlier later = Conflict earlier.locks later.locks → earlier.state ≡ Applied

-- each entry before this position lets that one pass
abbrev pub AllLetPass : List Entry → (p : ℕ) → Entry → Type 0
AllLetPass entries p later = (q : ℕ) (earlier : Entry) → q < p → entry_at entries q ≡ Some earlier → LetsPass earlier later

-- the entry of the position waits, and each earlier one that is in conflict with it by locks is applied
pub record IsRunnable (entries : List Entry) (p : ℕ) : Type 0 where
  pub entry : Entry
  pub is_there : entry_at entries p ≡ Some entry
  pub waits : entry.state ≡ Waiting
  pub ready : AllLetPass entries p entry

-- no entry from the one position on and before the other is runnable
abbrev pub NoneRunnable : List Entry → (from below : ℕ) → Type 0
NoneRunnable entries from below = (q : ℕ) → from ≤ q → q < below → ¬ IsRunnable entries q

-- the first entry from this position on that is runnable
pub record IsFirstRunnable (entries : List Entry) (from p : ℕ) : Type 0 where
  pub later : from ≤ p
  pub runnable : IsRunnable entries p
  pub first : (q : ℕ) → from ≤ q → q < p → ¬ IsRunnable entries q
