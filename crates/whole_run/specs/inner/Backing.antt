-- What is done with the checkpoints of a run that rolls back.
use Rattle.std.specs.Prelude.{◌≡◌, ℕ, ◌≤◌, ◌<◌, true, false, List, ◌++◌, length, All, Contains, Option, Some, None, IfSome}
use Rattle.record_store.specs.Stored.{Stored, state_of}
use Rattle.reorder_list.specs.declared.entry.Entry.{Entry}
use Rattle.reorder_list.specs.Entries.{entry_at, is_applied}
use Rattle.whole_run.specs.declared.recovery.Recovery.{Recovery}
use Rattle.whole_run.specs.declared.recovery.Recovery.TheVariants.{Selective, Rollback}
use Rattle.whole_run.specs.declared.parts.backing.Backup.{Backup}
use Rattle.whole_run.specs.declared.parts.backing.Checkpoint.{Checkpoint}
use Rattle.whole_run.specs.inner.Backed.{HasCut, AreLive}

-- the number went on over entries that are applied, up to one that is not, or to the end of the list
pub record IsAdvanced (entries : List Entry) (before after : Backup) : Type 0 where
  pub low : before.whole ≤ after.whole
  pub passed : (q : ℕ) → before.whole ≤ q → q < after.whole → (e : Entry) × (entry_at entries q ≡ Some e) × (is_applied e.state ≡ true)
  pub stops : IfSome (entry_at entries after.whole) (λ (e : Entry). is_applied e.state ≡ false)
  pub checkpoints : after.checkpoints ≡ before.checkpoints

-- after a result was applied: a selective run counts nothing
abbrev pub AdvancesBy : Recovery → List Entry → (before after : Backup) → Type 0
AdvancesBy Selective entries before after = after ≡ before
AdvancesBy (Rollback every) entries before after = IsAdvanced entries before after

-- at most slots for the registers of threads were added
pub record SlotsOnly (before after : Stored) : Type 0 where
  pub state : state_of after ≡ state_of before
  pub threads : length before.threads ≤ length after.threads
  pub cells : after.cells ≡ before.cells
  pub under : after.under ≡ before.under
  pub away : after.away ≡ before.away

-- the store is what the checkpoint at the cut holds, with slots for so many threads
pub record IsRestoredTo (checkpoints : List Checkpoint) (cut threads : ℕ) (store : Stored) : Type 0 where
  pub checkpoint : Checkpoint
  pub there : Contains checkpoints checkpoint
  pub at_cut : checkpoint.cut ≡ cut
  pub slots : SlotsOnly checkpoint.store store
  pub wide : threads ≤ length store.threads

abbrev pub IsRestored : List Checkpoint → (cut threads : ℕ) → Option Stored → Type 0
IsRestored checkpoints cut threads None = ¬ HasCut checkpoints cut
IsRestored checkpoints cut threads (Some store) = IsRestoredTo checkpoints cut threads store

-- those after the cut were given up, at the end of the list
pub record DropsAfter (cut : ℕ) (before after : Backup) : Type 0 where
  pub whole : after.whole ≡ before.whole
  pub rest : List Checkpoint
  pub split : before.checkpoints.items ≡ after.checkpoints.items ++ rest
  pub dropped : All (λ (checkpoint : Checkpoint). cut < checkpoint.cut) rest
  pub kept : All (λ (checkpoint : Checkpoint). checkpoint.cut ≤ cut) after.checkpoints.items

-- those before the position were given up, at the front of the list
pub record DropsBefore (position : ℕ) (before after : Backup) : Type 0 where
  pub whole : after.whole ≡ before.whole
  pub front : List Checkpoint
  pub split : before.checkpoints.items ≡ front ++ after.checkpoints.items
  pub dropped : All (λ (checkpoint : Checkpoint). checkpoint.cut < position) front
  pub stops : AreLive position after.checkpoints.items
