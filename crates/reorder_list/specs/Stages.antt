-- What stands between a run, the stage that its journal leads to, and the entries of the positions that have not retired.
use Rattle.std.specs.Prelude.{◌≡◌, ◌↔◌, ◌+◌, ◌≤◌, ◌<◌, ℕ, ℤ, Bool, true, false, IsTrue, List, ◌∷◌, [], ◌++◌, length, Contains, All, IfSome, Option, Some, None, is_some, slice_get}
use Rattle.gp_base.specs.declared.fault.Fault.{Fault}
use Rattle.gp_base.specs.declared.footprint.Footprint.{Footprint}
use Rattle.gp_base.specs.declared.journal.Event.TheVariants as event
use Rattle.task_ast.specs.declared.effect.Effect.{Effect}
use Rattle.task_ast.specs.meaning.Plain.{Subthread, foot_of}
use Rattle.task_ast.specs.Plain.{lock_foot_of}
use Rattle.task_ast.specs.meaning.State.{State}
use Rattle.task_ast.specs.History.{old_of}
use Rattle.task_ast.specs.meaning.Effect.{after}
use Rattle.dependence.specs.meaning.Dependents.{is_member}
use Rattle.dependence.specs.meaning.Restarts.{Dependence, begun_of, struck_next}
use Rattle.dependence.specs.meaning.Journal.{Stage, Allowed, happens, WasTaken, MayPost}
use Rattle.dependence.specs.Standing.{present, StageStands, NamesIssued}
use Rattle.dependence.specs.meaning.Runs.{dependence_of}
use Rattle.dependence.specs.Runs.{lock_feet_of}
use Rattle.dependence.specs.meaning.Conflict.{clash_in}
use Rattle.dependence.specs.Posting.{by_locks}
use Rattle.dependence.specs.Removal.{undone_part}
use Rattle.dependence.specs.Buffer.{Buffer, buffer_with, buffer_without}
use Rattle.dependence.specs.RunBuffer.{RunStands}
use Rattle.record_store.specs.Stored.{Stored, state_of, Fits}
use Rattle.reorder_list.specs.declared.entry.Entry.{Entry}
use Rattle.reorder_list.specs.declared.entry.State.TheVariants.{Waiting, Applied}
use Rattle.reorder_list.specs.Entries.{StandFrom, IsFresh, AllKnown, entry_at, with_change, with_change_at, out_entry, known_entry, applied_entry, raised_entry, histories_of, lines_of}
use Rattle.reorder_list.specs.Runnable.{IsRunnable}

-- the entry is that of a subthread
pub record IsOf (s : Subthread) (e : Entry) : Type 0 where
  pub thread : e.thread ≡ s.thread
  pub begins : e.begins ≡ s.begins
  pub child : e.child ≡ s.child
  pub held : e.held ≡ s.held
  pub locks : e.locks ≡ lock_foot_of s

-- the entry of a position of the run, as it stands at a stage
pub record IsEntry (run : List Subthread) (at : Stage) (p : ℕ) (e : Entry) : Type 0 where
  pub subthread : Subthread
  pub is_there : slice_get run p ≡ Some subthread
  pub is_of : IsOf subthread e
  pub attempt : e.attempt ≡ present at p
  pub begun : e.begun ≡ begun_of at.progress.made p
  pub waits : (e.state ≡ Waiting) ↔ ¬ Contains at.posted (p, present at p)
  pub applied : (e.state ≡ Applied) ↔ (at.applied p ≡ true)
  -- what is known of what it touches is so, and that is known exactly where some attempt was taken
  pub foot : IfSome e.foot (λ f. f ≡ foot_of subthread)
  pub known : IsTrue (is_some e.foot) ↔ WasTaken at p

-- the entries are those of the positions from the oldest that has not retired up to the front
pub record EntriesStand (run : List Subthread) (at : Stage) (entries : List Entry) : Type 0 where
  pub row : StandFrom at.retired entries
  pub front : at.retired + length entries ≡ at.progress.front
  pub each : (p : ℕ) (e : Entry) → entry_at entries p ≡ Some e → IsEntry run at p e

-- the entry with which a position of the run begins
pub record IsFirst (run : List Subthread) (p : ℕ) (e : Entry) : Type 0 where
  pub subthread : Subthread
  pub is_there : slice_get run p ≡ Some subthread
  pub is_of : IsOf subthread e
  pub position : e.pos ≡ p
  pub attempt : e.attempt ≡ 0
  pub begun : e.begun ≡ p + 1
  pub unknown : e.foot ≡ None
  pub fresh : IsFresh e

-- each history fits the store
abbrev pub HistoriesFit : Stored → List Entry → Type 0
HistoriesFit store entries = All (λ (e : Entry). IfSome e.hist (Fits store)) entries

-- the state, the histories and the lines that a store and entries hold
abbrev pub buffer_of : Stored → List Entry → Buffer
buffer_of store entries = record { state = state_of store; histories = histories_of entries; lines = lines_of entries }

-- an entry is runnable exactly where the present attempt of its position may be posted by locks
abbrev pub RunnableLaw : Type 0
RunnableLaw =
    (run : List Subthread) (dependence : Dependence) (faults : List Fault) (at : Stage) (entries : List Entry) (p : ℕ)
    → StageStands dependence faults at → EntriesStand run at entries
    → IsRunnable entries p ↔ MayPost (by_locks (clash_in (lock_feet_of run)) dependence) at p (present at p)

-- each position that was issued and has not retired was taken at some attempt
abbrev pub AllTaken : Stage → Type 0
AllTaken at = (p : ℕ) → at.retired ≤ p → p < at.progress.front → WasTaken at p

-- it is known what all entries touch exactly where all positions were taken
abbrev pub KnownLaw : Type 0
KnownLaw = (run : List Subthread) (at : Stage) (entries : List Entry) → EntriesStand run at entries → AllKnown entries ↔ AllTaken at

-- an issue puts the next position's entry at the end
abbrev pub IssueLaw : Type 0
IssueLaw =
    (run : List Subthread) (dependence : Dependence) (faults : List Fault) (at : Stage) (entries : List Entry) (p : ℕ) (e : Entry)
    → NamesIssued at → EntriesStand run at entries
    → Allowed dependence faults at (event.Issue p) → IsFirst run p e
    → EntriesStand run (happens dependence faults at (event.Issue p)) (entries ++ e ∷ [])

-- a post sends the entry out
abbrev pub PostLaw : Type 0
PostLaw =
    (run : List Subthread) (dependence : Dependence) (faults : List Fault) (at : Stage) (entries : List Entry) (p attempt : ℕ)
    → EntriesStand run at entries
    → Allowed dependence faults at (event.Post p attempt)
    → EntriesStand run (happens dependence faults at (event.Post p attempt)) (with_change_at p out_entry entries)

-- each result tells what the subthread touches; one of the present attempt is applied then, whatever history is kept of it, and another
-- changes nothing else
abbrev pub TakeLaw : Type 0
TakeLaw =
    (run : List Subthread) (dependence : Dependence) (faults : List Fault) (at : Stage) (entries : List Entry) (p attempt : ℕ)
    (s : Subthread) (foot : Footprint) (history : Option Effect) (lines : List (List ℤ))
    → EntriesStand run at entries → slice_get run p ≡ Some s → foot ≡ foot_of s
    → Allowed dependence faults at (event.Take p attempt true)
    → EntriesStand run (happens dependence faults at (event.Take p attempt true))
    (with_change_at p (applied_entry history lines) (with_change_at p (known_entry foot) entries))

abbrev pub StaleLaw : Type 0
StaleLaw =
    (run : List Subthread) (dependence : Dependence) (faults : List Fault) (at : Stage) (entries : List Entry) (p attempt : ℕ)
    (s : Subthread) (foot : Footprint)
    → EntriesStand run at entries → slice_get run p ≡ Some s → foot ≡ foot_of s
    → EntriesStand run (happens dependence faults at (event.Take p attempt false)) (with_change_at p (known_entry foot) entries)

-- one of a position that has no entry, since it has retired, changes nothing
abbrev pub GoneLaw : Type 0
GoneLaw =
    (run : List Subthread) (dependence : Dependence) (faults : List Fault) (at : Stage) (entries : List Entry) (p attempt : ℕ)
    → EntriesStand run at entries
    → entry_at entries p ≡ None
    → EntriesStand run (happens dependence faults at (event.Take p attempt false)) entries

-- a restart raises the entries of what it redoes
abbrev pub RestartLaw : Type 0
RestartLaw =
    (run : List Subthread) (dependence : Dependence) (faults : List Fault) (at : Stage) (entries : List Entry) (struck number : ℕ)
    → StageStands dependence faults at → EntriesStand run at entries
    → struck_next dependence faults at.progress ≡ Some struck
    → EntriesStand run (happens dependence faults at (event.Restart number))
    (with_change (λ q. is_member q (dependence.redo struck at.progress.front)) (raised_entry at.progress.front) entries)

-- a retirement takes the oldest entry out
abbrev pub RetireLaw : Type 0
RetireLaw =
    (run : List Subthread) (dependence : Dependence) (faults : List Fault) (at : Stage) (e : Entry) (entries : List Entry)
    → EntriesStand run at (e ∷ entries)
    → EntriesStand run (happens dependence faults at (event.Retire at.retired)) entries

-- the next entry holds nothing, nor does one that goes out
abbrev pub PushedLaw : Type 0
PushedLaw = (store : Stored) (entries : List Entry) (e : Entry) → IsFresh e → buffer_of store (entries ++ e ∷ []) ≡ buffer_of store entries

abbrev pub SentLaw : Type 0
SentLaw = (store : Stored) (entries : List Entry) (p : ℕ) → buffer_of store (with_change_at p out_entry entries) ≡ buffer_of store entries

-- what they hold stays as it is where it is known what a subthread touches
abbrev pub LearntLaw : Type 0
LearntLaw =
    (store : Stored) (entries : List Entry) (p : ℕ) (foot : Footprint)
    → buffer_of store (with_change_at p (known_entry foot) entries) ≡ buffer_of store entries

-- where an effect is applied to the store and its history and lines to its entry, they hold what the position did
abbrev pub TakenLaw : Type 0
TakenLaw =
    (store later : Stored) (entries : List Entry) (p : ℕ) (e : Entry) (done : Effect) → entry_at entries p ≡ Some e
    → state_of later ≡ after done (state_of store)
    → buffer_of later (with_change_at p (applied_entry (Some (old_of done (state_of store))) done.prints) entries)
    ≡ buffer_with p done (buffer_of store entries)

-- where the store is undone and entries are raised, they hold what is left without these positions
abbrev pub RaisedLaw : Type 0
RaisedLaw =
    (store later : Stored) (entries : List Entry) (part : ℕ → Bool) (front begun : ℕ)
    → state_of later ≡ undone_part (histories_of entries) part front (state_of store)
    → buffer_of later (with_change part (raised_entry begun) entries) ≡ buffer_without part front (buffer_of store entries)

-- what stands of the buffer stands without the oldest entry once that has retired
abbrev pub DroppedLaw : Type 0
DroppedLaw =
    (run : List Subthread) (faults : List Fault) (start : State) (at : Stage) (store : Stored) (e : Entry) (entries : List Entry)
    → EntriesStand run at (e ∷ entries)
    → RunStands run faults start at (buffer_of store (e ∷ entries))
    → RunStands run faults start (happens (dependence_of run) faults at (event.Retire at.retired)) (buffer_of store entries)
