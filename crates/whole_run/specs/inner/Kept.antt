-- What an engine keeps between two calls.
use Rattle.std.specs.Prelude.{◌≡◌, ℕ, ◌≤◌, ◌<◌, ◌^◌, ⊤, All, List, length, Option, Some, None}
use Rattle.gp_base.specs.declared.journal.Event.{Event}
use Rattle.gp_base.specs.declared.journal.Restart.{Restart}
use Rattle.task_ast.specs.declared.sync.SyncOp.{SyncOp}
use Rattle.task_ast.specs.meaning.Control.{Point}
use Rattle.task_ast.specs.meaning.Names.{records_of, locks_of, cells_in}
use Rattle.task_ast.specs.meaning.Layout.{layout}
use Rattle.task_ast.specs.Table.{Table}
use Rattle.dependence.specs.meaning.Journal.{Stage, stage, Lawful}
use Rattle.dependence.specs.Posting.{OutReady}
use Rattle.dependence.specs.Standing.{AreShort}
use Rattle.task_code.specs.Relation.{Rests}
use Rattle.record_store.specs.Stored.{Stored}
use Rattle.reorder_list.specs.declared.entry.Entry.{Entry}
use Rattle.reorder_list.specs.Stages.{EntriesStand}
use Rattle.subthread.specs.Tasks.{Suits}
use Rattle.whole_run.specs.declared.parts.backing.Backup.{Backup}
use Rattle.whole_run.specs.declared.parts.Place.{Place}
use Rattle.whole_run.specs.declared.parts.Plan.{Plan}
use Rattle.whole_run.specs.declared.parts.Parts.{Parts}
use Rattle.whole_run.specs.declared.calls.Halt.{Halt}
use Rattle.whole_run.specs.View.{Batch, View, program_in, run_in, dependence_in, locks_in, under_in, start_in, IsHalt}
use Rattle.whole_run.specs.Recovering.{HasCuts}
use Rattle.whole_run.specs.inner.Backed.{BackedBy}
use Rattle.whole_run.specs.inner.Locks.{LocksStand}
use Rattle.whole_run.specs.inner.RingStands.{from_before, RingStands}

-- what a plan is to definitions
abbrev pub batch_in : Plan → Batch
batch_in plan =
    record { work = plan.work.now; recovery = plan.recovery; inputs = plan.inputs.value; limits = plan.limits; faults = plan.faults.list }

-- what contracts see of the parts
abbrev pub view_of : Batch → Parts → View
view_of batch parts = record { batch = batch; events = parts.events.items; ended = parts.ended }

-- the stage after these events
abbrev pub stage_of : Batch → List Event → Stage
stage_of batch events = stage (dependence_in batch) batch.faults events

-- a thread that stands at this place stands for this point, before this synchronisation
abbrev pub IsPlaceIn : Batch → (thread : ℕ) → SyncOp → Place → Point → Type 0
IsPlaceIn batch t op place point = Rests (program_in batch) op point (record { at = place.at; ctl = place.ctl; me = t })

-- where the thread of an entry stands before its subthread
abbrev pub place_of : Entry → Place
place_of e = record { at = e.at; ctl = e.ctl }

-- an entry stands where the plain run's thread begins, after what a settle sets
abbrev pub IsPlaced : Batch → Entry → Type 0
IsPlaced batch e = IsPlaceIn batch e.thread e.begins.sync (place_of e) (from_before batch e.pos e.begins.sync e.thread)

-- a halt that is known is one
abbrev pub IsEnd : Batch → (front : ℕ) → Option Halt → Type 0
IsEnd batch front None = ⊤
IsEnd batch front (Some halts) = IsHalt batch front halts

-- a batch that can be run: work, inputs and limits suit one another, and there are cuts to roll back to
pub record IsFit (batch : Batch) : Type 0 where
  pub cuts : HasCuts batch.recovery
  pub suits : Suits batch.work (layout (program_in batch).heads) batch.inputs batch.limits
  pub short : AreShort batch.faults
  pub few : batch.limits.subthreads < 2 ^ 32

-- the store has room for the registers of all threads, and the cells, the layout and the locks of the run
pub record IsHome (batch : Batch) (table : Table) (store : Stored) : Type 0 where
  pub threads : length table.seats ≤ length store.threads
  pub cells : length store.cells ≡ cells_in (records_of (program_in batch).heads)
  pub under : store.under ≡ under_in batch
  pub locks : length store.away ≡ cells_in (locks_of (program_in batch).heads)

-- the journal with its counts
pub record JournalStands (batch : Batch) (events : List Event) (restarts : List Restart) (issued : ℕ) (ended : Option Halt) : Type 0 where
  pub lawful : Lawful (dependence_in batch) batch.faults events
  pub restarts_are : restarts ≡ (stage_of batch events).progress.made
  pub issued_are : issued ≡ (stage_of batch events).progress.front
  pub ended_is : IsEnd batch (stage_of batch events).progress.front ended

-- the entries and the store, and what undoes
pub record WindowStands (batch : Batch) (at : Stage) (table : Table) (entries : List Entry) (store : Stored)
    (backup : Backup) : Type 0 where
  pub entries_are : EntriesStand (run_in batch) at entries
  pub backed : BackedBy (run_in batch) batch.faults (start_in batch) batch.recovery at entries store backup
  pub placed : All (IsPlaced batch) entries
  pub locks : LocksStand store.away entries
  -- before what is out, each position in conflict with it by locks is applied
  pub ready : OutReady (locks_in batch) at
  pub home : IsHome batch table store

-- all that is kept
pub record Keeps (batch : Batch) (table : Table) (places : List Place) (entries : List Entry) (store : Stored)
    (backup : Backup) (events : List Event)
    (restarts : List Restart) (issued : ℕ) (ended : Option Halt) : Type 0 where
  pub fit : IsFit batch
  pub journal : JournalStands batch events restarts issued ended
  pub ring : RingStands batch (IsPlaceIn batch) (stage_of batch events) table places
  pub window : WindowStands batch (stage_of batch events) table entries store backup

abbrev pub Kept : Batch → Parts → Type 0
Kept batch parts =
    Keeps batch parts.ring.table parts.places.items parts.rol.entries parts.store parts.backup parts.events.items
    parts.restarts.items parts.issued
    parts.ended
