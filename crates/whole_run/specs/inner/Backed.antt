-- What an engine keeps that undoes what faults ruin: histories beside the entries, or copies of the store at cuts.
use Rattle.std.specs.Prelude.{◌≡◌, ◌+◌, ◌-◌, ◌%◌, min, ℕ, ◌≤◌, ◌<◌, Bool, true, false, ⊤, cond, nat_le, List, length, map, All, Contains, Option, Some, None, IfSome, slice_get}
use Rattle.std.specs.List.Sorted.{IsStrictlyIncreasing}
use Rattle.gp_base.specs.declared.fault.Fault.{Fault}
use Rattle.task_ast.specs.meaning.State.{State}
use Rattle.task_ast.specs.meaning.Plain.{Subthread}
use Rattle.dependence.specs.meaning.Journal.{Stage}
use Rattle.dependence.specs.Standing.{present, StageStands}
use Rattle.dependence.specs.meaning.Runs.{dependence_of}
use Rattle.dependence.specs.RunBuffer.{RunStands}
use Rattle.rollback.specs.meaning.Cuts.{cut_at, cuts_of}
use Rattle.rollback.specs.Standing.{BlocksStand}
use Rattle.rollback.specs.Driving.{DrivingStands}
use Rattle.rollback.specs.States.{Held, HeldStands, IsCopy}
use Rattle.record_store.specs.Stored.{Stored, state_of, IsAllHome}
use Rattle.reorder_list.specs.declared.entry.Entry.{Entry}
use Rattle.task_ast.specs.meaning.Table.{is_settle}
use Rattle.reorder_list.specs.Entries.{lines_of}
use Rattle.reorder_list.specs.Stages.{HistoriesFit, buffer_of}
use Rattle.whole_run.specs.declared.recovery.Recovery.{Recovery}
use Rattle.whole_run.specs.declared.recovery.Recovery.TheVariants.{Selective, Rollback}
use Rattle.whole_run.specs.declared.parts.closing.TheConstants.{WINDOW}
use Rattle.whole_run.specs.declared.parts.backing.Backup.{Backup}
use Rattle.whole_run.specs.declared.parts.backing.Checkpoint.{Checkpoint}

-- the state and the lines that a store and entries hold
abbrev pub held_of : Stored → List Entry → Held
held_of store entries = record { state = state_of store; lines = lines_of entries }

-- the cut of the block of a position that has an entry, where none of that block has retired: the greatest multiple
-- that is not above it, or the oldest position where that is a settle
abbrev pub cut_after : (every position : ℕ) → (oldest : Option Entry) → Option ℕ
cut_after every p None = None
cut_after every p (Some oldest) =
    cond (nat_le oldest.pos (p - p % every)) (Some (p - p % every)) (cond (is_settle oldest.begins.sync) (Some oldest.pos) None)

abbrev pub open_cut : (every : ℕ) → List Entry → (position : ℕ) → Option ℕ
open_cut every entries p = cut_after every p (slice_get entries 0)

-- there is a checkpoint at the cut
abbrev pub HasCut : List Checkpoint → (cut : ℕ) → Type 0
HasCut checkpoints cut = (checkpoint : Checkpoint) × Contains checkpoints checkpoint × (checkpoint.cut ≡ cut)

-- the first checkpoint, where there is one, lies not before the position
abbrev pub AreLive : (position : ℕ) → List Checkpoint → Type 0
AreLive p checkpoints = IfSome (slice_get checkpoints 0) (λ (checkpoint : Checkpoint). p ≤ checkpoint.cut)

-- the block of a position is open, by the number of positions that are applied before the first that is not
abbrev pub is_open : Recovery → (whole position : ℕ) → Bool
is_open Selective whole p = true
is_open (Rollback every) whole p = nat_le (p - p % every) whole

-- the position from which on none is looked at for a post, by that number
abbrev pub window_end : Recovery → (whole : ℕ) → ℕ
window_end Selective whole = 4294967295
window_end (Rollback every) whole = min (whole + WINDOW) 4294967295

-- before a position is posted, there is a checkpoint at its cut where none of its block has retired
abbrev pub IsOpened : Recovery → List Entry → (position : ℕ) → Backup → Type 0
IsOpened Selective entries p backup = ⊤
IsOpened (Rollback every) entries p backup = (cut : ℕ) → open_cut every entries p ≡ Some cut → HasCut backup.checkpoints.items cut

-- the number is that of the first position that is not applied
pub record IsWhole (at : Stage) (whole : ℕ) : Type 0 where
  pub below : (q : ℕ) → q < whole → at.applied q ≡ true
  pub issued : whole ≤ at.progress.front
  pub next : at.applied whole ≡ false

-- the store of a checkpoint has the cells of this one, all at home
pub record HasShape (store copy : Stored) : Type 0 where
  pub cells : length copy.cells ≡ length store.cells
  pub under : copy.under ≡ store.under
  pub away : length copy.away ≡ length store.away
  pub home : IsAllHome copy

-- what stands of the stage: where all is rolled back, that of the blocks too, that a settle which was issued has all
-- before it retired, and that later positions began no earlier
abbrev pub StandsBy : List Subthread → List Fault → Recovery → Stage → Type 0
StandsBy run faults Selective at = StageStands (dependence_of run) faults at
StandsBy run faults (Rollback every) at =
    BlocksStand (cuts_of every run) (dependence_of run) faults at × DrivingStands (dependence_of run) at × (1 ≤ every)

module _ (run : List Subthread) (faults : List Fault) (start : State) where
  -- a checkpoint is a copy at its cut
  pub record IsCheckpoint (every : ℕ) (at : Stage) (store : Stored) (checkpoint : Checkpoint) : Type 0 where
    pub is_cut : cut_at (cuts_of every run) checkpoint.cut ≡ checkpoint.cut
    pub copy : IsCopy run faults start at checkpoint.cut (state_of checkpoint.store)
    pub shape : HasShape store checkpoint.store

  -- where the present attempt of a position is posted, there is a checkpoint at its cut, unless some of its block has retired
  abbrev pub HasCheckpoints : (every : ℕ) → Stage → List Checkpoint → Type 0
  HasCheckpoints every at checkpoints =
      (p : ℕ) → at.retired ≤ cut_at (cuts_of every run) p → Contains at.posted (p, present at p)
      → HasCut checkpoints (cut_at (cuts_of every run) p)

  -- what copies undo: the store holds the fold of what is applied, and there are the checkpoints that a rollback may go back to
  pub record CopiesStand (every : ℕ) (at : Stage) (entries : List Entry) (store : Stored) (backup : Backup) : Type 0 where
    pub held : HeldStands run faults start at (held_of store entries)
    pub whole : IsWhole at backup.whole
    pub are : All (IsCheckpoint every at store) backup.checkpoints.items
    pub rising : IsStrictlyIncreasing (map (λ (checkpoint : Checkpoint). checkpoint.cut) backup.checkpoints.items)
    pub has : HasCheckpoints every at backup.checkpoints.items
    -- those to which no rollback goes back any more were given up
    pub live : AreLive at.retired backup.checkpoints.items

  -- what histories undo: the store and the entries hold what the history buffer of the run does
  pub record HistoriesStand (at : Stage) (entries : List Entry) (store : Stored) : Type 0 where
    pub buffer_is : RunStands run faults start at (buffer_of store entries)
    pub undoable : HistoriesFit store entries

  abbrev pub BackedBy : Recovery → Stage → List Entry → Stored → Backup → Type 0
  BackedBy Selective at entries store backup = HistoriesStand at entries store
  BackedBy (Rollback every) at entries store backup = CopiesStand every at entries store backup
