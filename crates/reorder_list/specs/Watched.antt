-- What the list keeps so that it need not look at all entries for one that is runnable.
use Rattle.std.specs.Prelude.{◌≡◌, ◌⊎◌, ◌+◌, ◌<◌, ◌≤◌, min, max, ℕ, Bool, true, false, not, cond, nat_eq, List, [], ◌∷◌, length, Option, Some, None, is_some, count_by}
use Rattle.dependence.specs.Conflict.{Conflict}
use Rattle.reorder_list.specs.declared.entry.Entry.{Entry}
use Rattle.reorder_list.specs.declared.entry.State.{State}
use Rattle.reorder_list.specs.declared.entry.State.TheVariants.{Waiting}
use Rattle.reorder_list.specs.declared.marks.Marks.{Marks}
use Rattle.reorder_list.specs.declared.marks.Watch.{Watch}
use Rattle.reorder_list.specs.declared.touched.Touched.{Touched}
use Rattle.reorder_list.specs.Entries.{entry_at, is_applied}
use Rattle.reorder_list.specs.Places.{IsKept}
use Rattle.reorder_list.specs.Runnable.{AllLetPass}
use Rattle.reorder_list.specs.Touching.{IsMarked}

-- the earlier position holds up the later one: its entry is in conflict by locks with that one's and is not applied
pub record HoldsUp (entries : List Entry) (earlier later : ℕ) : Type 0 where
  pub before : earlier < later
  pub entry : Entry
  pub is_there : entry_at entries earlier ≡ Some entry
  pub unapplied : is_applied entry.state ≡ false
  pub clash : (e : Entry) → entry_at entries later ≡ Some e → Conflict entry.locks e.locks

-- each earlier entry lets the position's pass
abbrev pub IsReady : List Entry → ℕ → Type 0
IsReady entries p = (e : Entry) → entry_at entries p ≡ Some e → AllLetPass entries p e

-- the watch that is kept beside the entry of a position
abbrev pub watch_at : List Entry → List Watch → ℕ → Option Watch
watch_at [] watches q = None
watch_at (e ∷ entries) [] q = None
watch_at (e ∷ entries) (w ∷ watches) q = cond (nat_eq e.pos q) (Some w) (watch_at entries watches q)

-- an earlier position holds this one up, and has it in its watch
pub record IsHeldUp (entries : List Entry) (watches : List Watch) (p : ℕ) : Type 0 where
  pub by : ℕ
  pub holds : HoldsUp entries by p
  pub watch : Watch
  pub is_there : watch_at entries watches by ≡ Some watch
  pub from : watch.from ≤ p
  pub to : p ≤ watch.to

-- an entry of the position that waits is held up
abbrev pub IsLooked : List Entry → List Watch → ℕ → Type 0
IsLooked entries watches q = (e : Entry) → entry_at entries q ≡ Some e → e.state ≡ Waiting → IsHeldUp entries watches q

-- so is each from the one position on and before the other
abbrev pub AreLooked : List Entry → List Watch → (start stop : ℕ) → Type 0
AreLooked entries watches start stop = (q : ℕ) → start ≤ q → q < stop → IsLooked entries watches q

-- each entry that waits before the first position, and before the second or after the third, is held up
abbrev pub AreAsleep : List Entry → List Watch → (fresh low last : ℕ) → Type 0
AreAsleep entries watches fresh low last =
    (q : ℕ) → q < fresh → (q < low) ⊎ (last < q) → IsLooked entries watches q

-- no entry after the one position and before the other is in conflict by locks with the other's
abbrev pub IsClear : List Entry → (until p : ℕ) → Type 0
IsClear entries until p =
    (q : ℕ) (earlier later : Entry) → until < q → q < p → entry_at entries q ≡ Some earlier → entry_at entries p ≡ Some later
    → ¬ Conflict earlier.locks later.locks

-- each entry has a watch, and is in conflict with none after the position that its watch tells
abbrev pub AreClear : List Entry → List Watch → Type 0
AreClear entries watches =
    (p : ℕ) (e : Entry) → entry_at entries p ≡ Some e
    → (w : Watch) × (watch_at entries watches p ≡ Some w) × IsClear entries w.until p

-- what each entry touches by locks is marked with its position
abbrev pub AllTouched : List Entry → Touched → Type 0
AllTouched entries touched = (q : ℕ) (e : Entry) → entry_at entries q ≡ Some e → IsMarked touched q e.locks

-- a watch holds each position that another does, and leaves no more of them to look at
pub record IsWider (watch wider : Watch) : Type 0 where
  pub from : wider.from ≤ watch.from
  pub to : watch.to ≤ wider.to
  pub until : watch.until ≤ wider.until

-- as many watches, each of which holds what the one at its place did
pub record AreWider (watches wider : List Watch) : Type 0 where
  pub many : length wider ≡ length watches
  pub each : (entries : List Entry) (q : ℕ) (w : Watch) → watch_at entries watches q ≡ Some w
      → (v : Watch) × (watch_at entries wider q ≡ Some v) × IsWider w v

-- the test gives this answer of each entry before the position
abbrev pub Below : (State → Bool) → Bool → List Entry → ℕ → Type 0
Below test answer entries below = (q : ℕ) (e : Entry) → q < below → entry_at entries q ≡ Some e → test e.state ≡ answer

-- each entry before the position is applied
abbrev pub AllApplied : List Entry → ℕ → Type 0
AllApplied entries whole = Below is_applied true entries whole

-- a mark, or the next position where it is this one
abbrev pub passed : (mark p : ℕ) → ℕ
passed mark p = cond (nat_eq mark p) (min (mark + 1) 4294967295) mark

-- what begins at the position to be looked at begins after it
abbrev pub past : (p : ℕ) → Marks → Marks
past p marks = record marks { fresh = passed marks.fresh p; low = passed marks.low p }

-- what the position of this watch held up has to be looked at again
abbrev pub waking : Watch → Marks → Marks
waking watch marks = record marks { low = min marks.low watch.from; last = max marks.last watch.to }

-- what is left to look at after a search that follows the mark or not, found a position or none, and looked at all or not
abbrev pub narrowed : (follows : Bool) → (found : Option ℕ) → (all : Bool) → Marks → Marks
narrowed false found all marks = marks
narrowed true (Some p) all marks = record marks { low = p }
narrowed true None true marks = record marks { low = 4294967295; last = 0 }
narrowed true None false marks = marks

-- what stands by the watches and the marks
pub record AreMarks (entries : List Entry) (watches : List Watch) (marks : Marks) : Type 0 where
  pub asleep : AreAsleep entries watches marks.fresh marks.low marks.last
  pub all_applied : AllApplied entries marks.whole
  pub clear : AreClear entries watches

-- of how many entries it is not known what the subthread touches
abbrev pub is_unknown : Entry → Bool
is_unknown e = not (is_some e.foot)

abbrev pub unknown_in : List Entry → ℕ
unknown_in entries = count_by is_unknown entries

-- what is kept of the entries, of the watches, of the marks, of what entries touch, and of how many are unknown
pub record IsUpheld (entries : List Entry) (watches : List Watch) (marks : Marks) (touched : Touched) (unknown : ℕ) : Type 0 where
  pub kept : IsKept entries
  pub many : length watches ≡ length entries
  pub marked : AreMarks entries watches marks
  pub touches : AllTouched entries touched
  pub unknowns : unknown ≡ unknown_in entries
