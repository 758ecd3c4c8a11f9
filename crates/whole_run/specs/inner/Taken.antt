-- What taking the run of a task changes.
use Rattle.std.specs.Prelude.{◌≡◌, ℕ, Bool, true, false, cond, nat_eq, List, Option, Some, None, slice_set}
use Rattle.task_ast.specs.declared.effect.Effect.{Effect}
use Rattle.task_ast.specs.declared.sync.Next.{Next}
use Rattle.task_ast.specs.meaning.Effect.{after}
use Rattle.task_ast.specs.History.{old_of}
use Rattle.task_ast.specs.Table.{Table, learning}
use Rattle.token_order.specs.View.{awaited}
use Rattle.record_store.specs.Lent.{marked}
use Rattle.record_store.specs.Stored.{Stored, state_of, SameShape, Fits}
use Rattle.reorder_list.specs.declared.entry.Entry.{Entry}
use Rattle.reorder_list.specs.Entries.{with_change_at, applied_entry}
use Rattle.whole_run.specs.declared.parts.Place.{Place}
use Rattle.whole_run.specs.declared.parts.backing.Backup.{Backup}
use Rattle.whole_run.specs.declared.recovery.Recovery.{Recovery}
use Rattle.whole_run.specs.declared.recovery.Recovery.TheVariants.{Selective, Rollback}
use Rattle.whole_run.specs.inner.Backing.{AdvancesBy}

-- whether it is this number
abbrev pub is_number : ℕ → Option ℕ → Bool
is_number p None = false
is_number p (Some q) = nat_eq q p

-- whether the thread's next synchronisation is awaited from this position
abbrev pub awaits : Table → (thread position : ℕ) → Bool
awaits table t p = is_number p (awaited table t)

-- the table, where the thread's next synchronisation is learnt if it is awaited from this position
abbrev pub learning_from : (position thread : ℕ) → Next → Table → Table
learning_from p t next table = cond (awaits table t p) (learning table t next) table

-- and the places, where the thread's is then this one
abbrev pub placing_from : (position thread : ℕ) → Place → Table → List Place → List Place
placing_from p t place table places = cond (awaits table t p) (slice_set places t place) places

-- whether there is an entry whose present attempt is this one
abbrev pub has_attempt : (attempt : ℕ) → Option Entry → Bool
has_attempt attempt None = false
has_attempt attempt (Some e) = nat_eq attempt e.attempt

-- the history that is kept of a result
abbrev pub history_by : Recovery → Effect → Option Effect
history_by Selective history = Some history
history_by (Rollback every) history = None

-- an effect was applied to the store, which took the cells of these locks home, and its history and lines to the entry of its position
pub record IsApplied (recovery : Recovery) (p : ℕ) (locks : List ℕ) (effect : Effect) (store later : Stored) (entries others : List Entry)
    (backup backup' : Backup) : Type 0 where
  pub state : state_of later ≡ after effect (state_of store)
  pub shape : SameShape store later
  pub away : later.away ≡ marked locks false store.away
  pub back : Fits later (old_of effect (state_of store))
  pub entries_are : others ≡ with_change_at p (applied_entry (history_by recovery (old_of effect (state_of store))) effect.prints) entries
  pub counted : AdvancesBy recovery others backup backup'

-- it was, or all is as before
abbrev pub IsAppliedWhere : (fresh : Bool) → Recovery → (p : ℕ) → (locks : List ℕ) → Effect → (store later : Stored)
    → (entries others : List Entry)
    → (backup backup' : Backup) → Type 0
IsAppliedWhere true recovery p locks effect store later entries others backup backup' =
    IsApplied recovery p locks effect store later entries others backup backup'
IsAppliedWhere false recovery p locks effect store later entries others backup backup' =
    (later ≡ store) × (others ≡ entries) × (backup' ≡ backup)
