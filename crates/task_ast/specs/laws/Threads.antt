-- What a turn leaves of the threads.
use Rattle.std.specs.Prelude.{◌≡◌, ℕ, suc, ◌<◌, ◌≤◌, ⊤, pos, negsuc, true, cond, Option, Some, None, length}
use Rattle.gp_base.specs.declared.limits.TheConstants.{MOST_THREADS}
use Rattle.task_ast.specs.declared.sync.SyncOp.{SyncOp}
use Rattle.task_ast.specs.declared.sync.SyncOp.TheVariants as sync
use Rattle.task_ast.specs.declared.sync.Next.{Next}
use Rattle.task_ast.specs.meaning.Repeat.{Again, More, Done}
use Rattle.task_ast.specs.meaning.Table.{ring}
use Rattle.task_ast.specs.Table.{Table, next_of, last_in, is_known_end, owner_in}
use Rattle.task_ast.specs.meaning.Turn.{owners_after, child_of}
use Rattle.task_ast.specs.Turn.{Turn, Look, To, Unknown, NoThread, Issue, Needs, look, has_passed, turn}
use Rattle.task_ast.specs.Reached.{Reached}

-- both tables have the same threads, with the same next synchronisations and last subthreads
pub record SameThreads (table there : Table) : Type 0 where
  pub threads : length there.seats ≡ length table.seats
  pub next : (t : ℕ) → next_of there t ≡ next_of table t
  pub last : (t : ℕ) → last_in there t ≡ last_in table t
  pub owners : there.owners ≡ table.owners
  pub limit : there.limit ≡ table.limit
  pub issued : there.issued ≡ table.issued

-- the thread whose rules a turn tries after this look, with its next synchronisation
abbrev pub tries : Look → Table → Option (ℕ × Next)
tries (To t next) table = cond (has_passed table t) None (Some (t, next))
tries (Unknown t) table = None
tries NoThread table = None

-- the thread whose rules the next turn tries
abbrev pub ahead : Table → Option (ℕ × Next)
ahead table = tries (look table (ring table.token (length table.seats))) table

-- a subthread may begin so: the lock is free, there is room for a fork's child, the thread that is joined has ended, and
-- the thread itself has not
abbrev pub MayBegin : Table → SyncOp → Type 0
MayBegin table (sync.Lock l) = owner_in table.owners l ≡ None
MayBegin table (sync.Fork task arguments) = length table.seats < MOST_THREADS
MayBegin table (sync.Join (pos h)) = (h < length table.seats) × (is_known_end (next_of table h) ≡ true)
MayBegin table (sync.Join (negsuc h)) = ⊥
MayBegin table sync.End = ⊥
MayBegin table sync.BadIndex = ⊥
MayBegin table sync.Spent = ⊥
MayBegin table _ = ⊤

-- so many threads, and a child where there is one
abbrev pub with_child : Option ℕ → ℕ → ℕ
with_child None n = n
with_child (Some child) n = suc n

-- a thread has begun a subthread, and all else stands as it did but for its child
pub record HasBegun (table : Table) (t : ℕ) (next : Next) (child : Option ℕ) (after : Table) : Type 0 where
  pub inside : t < length table.seats
  pub tried : ahead table ≡ Some (t, next)
  pub known : next_of table t ≡ Some next
  pub may : MayBegin table next.sync
  pub below : table.issued < table.limit
  pub child_is : child ≡ child_of next.sync (length table.seats)
  pub owners : after.owners ≡ owners_after next.sync t table.owners
  pub limit : after.limit ≡ table.limit
  pub issued : after.issued ≡ suc table.issued
  pub unknown : next_of after t ≡ None
  pub last : last_in after t ≡ Some table.issued
  pub others : (u : ℕ) → (u ≡ t → ⊥) → u < length table.seats → (next_of after u ≡ next_of table u) × (last_in after u ≡ last_in table u)
  pub threads : length after.seats ≡ with_child child (length table.seats)
  pub further : (u : ℕ) → length table.seats ≤ u → u < length after.seats
      → (child ≡ Some u) × (next_of after u ≡ Some (record { sync = sync.Start; line = 0 })) × (last_in after u ≡ None)

-- the thread that is tried is there, and its next synchronisation is known
abbrev pub AheadLaw : Type 0
AheadLaw = (table : Table) (t : ℕ) (next : Next) → ahead table ≡ Some (t, next) → (t < length table.seats) × (next_of table t ≡ Some next)

-- a pass leaves the threads as they are
abbrev pub PassLaw : Type 0
PassLaw = (table after : Table) → turn table ≡ More after → SameThreads table after

-- an issue begins a subthread of the thread that was tried, as it may
abbrev pub IssueLaw : Type 0
IssueLaw =
    (table : Table) (t : ℕ) (next : Next) (child : Option ℕ) (after : Table) → turn table ≡ Done (Issue t next child after)
    → HasBegun table t next child after

-- where a thread that has passed comes up again, and the least thread that has not ended is unknown, that one is needed
abbrev pub NeedsLaw : Type 0
NeedsLaw =
    (table : Table) (t : ℕ) (next : Next) → look table (ring table.token (length table.seats)) ≡ To t next → has_passed table t ≡ true
    → (u : ℕ) → u < length table.seats → next_of table u ≡ None → ((v : ℕ) → v < u → is_known_end (next_of table v) ≡ true)
    → turn table ≡ Done (Needs u)

-- only a thread that is there and whose next synchronisation is unknown is needed
abbrev pub NeededLaw : Type 0
NeededLaw = (table : Table) → Reached table → (t : ℕ) → turn table ≡ Done (Needs t) → (t < length table.seats) × (next_of table t ≡ None)

-- the table that a turn leaves, where it leaves one
abbrev pub table_after : Again Table Turn → Option Table
table_after (More after) = Some after
table_after (Done (Issue t next child after)) = Some after
table_after (Done _) = None

-- no turn leaves more threads than may exist
abbrev pub SeatsLaw : Type 0
SeatsLaw =
    (table after : Table) → length table.seats ≤ MOST_THREADS → table_after (turn table) ≡ Some after → length after.seats ≤ MOST_THREADS

-- so no table of a run has more
abbrev pub MostThreadsLaw : Type 0
MostThreadsLaw = (table : Table) → Reached table → length table.seats ≤ MOST_THREADS
