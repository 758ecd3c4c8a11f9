-- What is made ready before a turn, and what a turn gives.
use Rattle.std.specs.Prelude.{◌≡◌, ◌⊎◌, ℕ, ◌+◌, ◌<◌, Bool, true, false, List, [], ◌∷◌, ◌++◌, length, Option, Some, None, is_some, slice_get, vec_len, vec_capacity, slice_set}
use Rattle.gp_base.specs.declared.journal.Event.TheVariants as event
use Rattle.task_ast.specs.meaning.State.{State, RegistersOf, number_at}
use Rattle.task_ast.specs.declared.sync.SyncOp.{SyncOp}
use Rattle.task_ast.specs.declared.sync.SyncOp.TheVariants as sync
use Rattle.task_ast.specs.declared.sync.Next.{Next}
use Rattle.task_ast.specs.Footprint.{lock_footprint}
use Rattle.token_order.specs.Turned.{is_let}
use Rattle.task_ast.specs.meaning.Table.{owned_from}
use Rattle.task_ast.specs.Table.{Table}
use Rattle.task_ast.specs.meaning.Turn.{owners_after, child_of}
use Rattle.task_ast.specs.Turn.{turns_left}
use Rattle.task_ast.specs.laws.Threads.{ahead}
use Rattle.record_store.specs.Stored.{Stored, with_thread}
use Rattle.reorder_list.specs.declared.entry.Entry.{Entry}
use Rattle.reorder_list.specs.declared.entry.State.TheVariants.{Waiting}
use Rattle.whole_run.specs.declared.calls.Issued.{Issued}
use Rattle.whole_run.specs.declared.parts.Parts.{Parts}
use Rattle.whole_run.specs.declared.parts.Place.{Place}
use Rattle.whole_run.specs.declared.parts.issuing.Prepared.{Prepared}
use Rattle.whole_run.specs.View.{Batch}
use Rattle.whole_run.specs.Gives.{IssueGives}
use Rattle.whole_run.specs.inner.Kept.{view_of, IsPlaceIn, Kept}
use Rattle.whole_run.specs.inner.RingStands.{StartIs, places_after}

-- a place in which a settle has set its variable to the value that the state has
abbrev pub settled_place : SyncOp → State → (thread : ℕ) → Place → Place
settled_place (sync.Settle register control) state t place =
    record { at = place.at; ctl = slice_set place.ctl control (number_at (state (RegistersOf t)) register) }
settled_place _ state t place = place

abbrev pub settled_in : SyncOp → State → (thread : ℕ) → Prepared → Prepared
settled_in op state t prepared = record prepared { place = settled_place op state t prepared.place }

-- an issue of thread t finds this prepared
pub record PreparedFor (batch : Batch) (table : Table) (places : List Place) (t : ℕ) (op : SyncOp) (prepared : Prepared) : Type 0 where
  pub place : slice_get places t ≡ Some prepared.place
  pub held : prepared.held ≡ owned_from 0 (owners_after op t table.owners) t
  pub locks : prepared.locks ≡ lock_footprint t op (child_of op (length table.seats)) prepared.held
  pub start : StartIs batch (IsPlaceIn batch) (length table.seats) op prepared.start

-- what is prepared for the next turn
abbrev pub IsPrepared : Batch → Table → List Place → Option Prepared → Type 0
IsPrepared batch table places None =
    (t : ℕ) (next : Next) → ahead table ≡ Some (t, next) → is_let table next.sync ≡ false
IsPrepared batch table places (Some prepared) =
    (t : ℕ) (next : Next) → ahead table ≡ Some (t, next) → PreparedFor batch table places t next.sync prepared

-- whether a child starts
abbrev pub forks : Option Prepared → Bool
forks None = false
forks (Some prepared) = is_some prepared.start

-- the next turn finds this prepared, and a slot for a child
pub record IsReadyFor (batch : Batch) (parts : Parts) (prepared : Option Prepared) : Type 0 where
  pub prepared_is : IsPrepared batch parts.ring.table parts.places.items prepared
  pub slot : forks prepared ≡ true → length parts.ring.table.seats < length parts.store.threads

-- nothing has changed but the room that there is, and the store
pub record SameParts (before after : Parts) : Type 0 where
  pub table : after.ring.table ≡ before.ring.table
  pub places : after.places.items ≡ before.places.items
  pub entries : after.rol.entries ≡ before.rol.entries
  pub backup : after.backup ≡ before.backup
  pub events : after.events.items ≡ before.events.items
  pub restarts : after.restarts.items ≡ before.restarts.items
  pub issued : after.issued ≡ before.issued
  pub ended : after.ended ≡ before.ended

-- the store is the same, or has one empty slot more
abbrev pub IsSlotted : Stored → Stored → Type 0
IsSlotted before after = (after ≡ before) ⊎ (after ≡ with_thread 0 before)

-- the entry of the subthread that is issued at a position
abbrev pub new_entry : (position thread : ℕ) → Next → Option ℕ → Prepared → Entry
new_entry p t next child prepared =
    record {
      pos = p;
      thread = t;
      begins = next;
      at = prepared.place.at;
      ctl = prepared.place.ctl;
      held = prepared.held;
      child = child;
      attempt = 0;
      begun = p + 1;
      state = Waiting;
      locks = prepared.locks;
      foot = None;
      hist = None;
      prints = [];
    }

-- the next position's entry was added, with the event and the place of a child that starts
pub record IsPushed (before after : Parts) (entry : Entry) (start : Option Place) : Type 0 where
  pub ring : after.ring ≡ before.ring
  pub places : after.places.items ≡ places_after before.places.items start
  pub entries : after.rol.entries ≡ before.rol.entries ++ entry ∷ []
  pub store : after.store ≡ before.store
  pub backup : after.backup ≡ before.backup
  pub events : after.events.items ≡ before.events.items ++ event.Issue before.issued ∷ []
  pub restarts : after.restarts ≡ before.restarts
  pub issued : after.issued ≡ before.issued + 1
  pub ended : after.ended ≡ None

-- there is room for one more place, entry and event
pub record HasRoom (parts : Parts) : Type 0 where
  pub place : vec_len parts.places < vec_capacity parts.places
  pub entry : 0 < parts.rol.spare
  pub event : 0 < parts.events.spare

-- one turn answers, or passes, after which fewer turns may pass
abbrev pub TurnGives : Batch → (before after : Parts) → Option Issued → Type 0
TurnGives batch before after None =
    (view_of batch after ≡ view_of batch before) × (turns_left after.ring.table < turns_left before.ring.table)
TurnGives batch before after (Some issued) = IssueGives (view_of batch before) (view_of batch after) issued

-- what the turns of an issue keep
pub record KeepsView (batch : Batch) (before now : Parts) : Type 0 where
  pub kept : Kept batch now
  pub closed : now.ring.cleared ≡ false
  pub same : view_of batch now ≡ view_of batch before
