-- Which locks are away.
use Rattle.std.specs.Prelude.{◌≡◌, ◌↔◌, ◌<◌, ℕ, Bool, true, List, length, Contains, Some, slice_get}
use Rattle.reorder_list.specs.declared.entry.Entry.{Entry}
use Rattle.reorder_list.specs.declared.entry.State.TheVariants.{Out}
use Rattle.reorder_list.specs.Entries.{entry_at}

-- an entry that is out holds the lock
pub record IsLent (entries : List Entry) (lock : ℕ) : Type 0 where
  pub position : ℕ
  pub entry : Entry
  pub there : entry_at entries position ≡ Some entry
  pub out : entry.state ≡ Out
  pub holds : Contains entry.held lock

-- a lock is away exactly where an entry that is out holds it
abbrev pub LocksStand : (away : List Bool) → List Entry → Type 0
LocksStand away entries = (lock : ℕ) → (slice_get away lock ≡ Some true) ↔ IsLent entries lock

-- the locks of an entry exist
abbrev pub HasLocks : (away : List Bool) → Entry → Type 0
HasLocks away e = (lock : ℕ) → Contains e.held lock → lock < length away
