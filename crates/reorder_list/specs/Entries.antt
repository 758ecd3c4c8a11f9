-- The entries of the positions from the oldest that has not retired, and how they change.
use Rattle.std.specs.Prelude.{◌≡◌, ℕ, suc, ◌+◌, ℤ, Bool, true, false, not, ◌&&◌, cond, nat_eq, IsTrue, ⊤, All, List, [], ◌∷◌, map, Option, Some, None, is_some, option_map, unwrap_or}
use Rattle.std.specs.Option.{option_and_then}
use Rattle.gp_base.specs.declared.footprint.Footprint.{Footprint}
use Rattle.task_ast.specs.declared.effect.Effect.{Effect}
use Rattle.reorder_list.specs.declared.entry.Entry.{Entry}
use Rattle.reorder_list.specs.declared.entry.State.{State}
use Rattle.reorder_list.specs.declared.entry.State.TheVariants.{Waiting, Out, Applied}

-- the entries, the oldest first, and room for how many more there is
pub record Entered : Type 0 where
  pub entries : List Entry
  pub spare : ℕ

-- the positions are those from this one on, one after another
abbrev pub StandFrom : ℕ → List Entry → Type 0
StandFrom p [] = ⊤
StandFrom p (e ∷ entries) = (e.pos ≡ p) × StandFrom (suc p) entries

-- the position of the oldest entry
abbrev pub first_position : List Entry → ℕ
first_position [] = 0
first_position (e ∷ entries) = e.pos

-- the positions follow one another
abbrev pub IsInRow : List Entry → Type 0
IsInRow entries = StandFrom (first_position entries) entries

-- the position is that after the last entry's, where there is one
abbrev pub ComesNext : List Entry → ℕ → Type 0
ComesNext [] p = ⊤
ComesNext (e ∷ []) p = p ≡ e.pos + 1
ComesNext (_ ∷ e ∷ entries) p = ComesNext (e ∷ entries) p

-- an entry whose first attempt was not posted
pub record IsFresh (e : Entry) : Type 0 where
  pub waits : e.state ≡ Waiting
  pub no_history : e.hist ≡ None
  pub no_lines : e.prints ≡ []

-- the entry of a position, where there is one
abbrev pub entry_at : List Entry → ℕ → Option Entry
entry_at [] p = None
entry_at (e ∷ entries) p = cond (nat_eq e.pos p) (Some e) (entry_at entries p)

-- whether the attempt was not posted, whether its result is not there yet, and whether that is applied
abbrev pub is_waiting : State → Bool
is_waiting Waiting = true
is_waiting _ = false

abbrev pub is_out : State → Bool
is_out Out = true
is_out _ = false

abbrev pub is_applied : State → Bool
is_applied Applied = true
is_applied _ = false

abbrev pub is_nil : {A : Type 0} → List A → Bool
is_nil [] = true
is_nil (x ∷ xs) = false

-- whether the entry is out
abbrev pub is_out_entry : Entry → Bool
is_out_entry e = is_out e.state

-- whether the entry is out and holds a lock
abbrev pub lends : Entry → Bool
lends e = is_out e.state && not (is_nil e.held)

-- it is known what the subthread of each entry touches
abbrev pub AllKnown : List Entry → Type 0
AllKnown entries = All (λ (e : Entry). IsTrue (is_some e.foot)) entries

-- what the subthread of a position touches, where the position has an entry and that is known
abbrev pub known_foot : List Entry → ℕ → Option Footprint
known_foot entries p = option_and_then (λ e. e.foot) (entry_at entries p)

-- each entry whose position passes the test is changed, and the others are as they were
abbrev pub with_change : (test : ℕ → Bool) → (Entry → Entry) → List Entry → List Entry
with_change test change entries = map (λ e. cond (test e.pos) (change e) e) entries

-- the entry of one position is changed
abbrev pub with_change_at : ℕ → (Entry → Entry) → List Entry → List Entry
with_change_at p change entries = with_change (λ q. nat_eq q p) change entries

-- the attempt is out
abbrev pub out_entry : Entry → Entry
out_entry e = record e { state = Out }

-- it is known what the subthread touches
abbrev pub known_entry : Footprint → Entry → Entry
known_entry foot e = record e { foot = Some foot }

-- the attempt's result is applied, with the history that is kept of it, if any, and these lines
abbrev pub applied_entry : Option Effect → List (List ℤ) → Entry → Entry
applied_entry history lines e = record e { state = Applied; hist = history; prints = lines }

-- the next attempt, which begins at this front, waits
abbrev pub raised_entry : (front : ℕ) → Entry → Entry
raised_entry front e = record e { attempt = e.attempt + 1; begun = front; state = Waiting; hist = None; prints = [] }

-- the history of a position, where it has one
abbrev pub histories_of : List Entry → ℕ → Option Effect
histories_of entries p = option_and_then (λ e. e.hist) (entry_at entries p)

-- the lines of a position
abbrev pub lines_of : List Entry → ℕ → List (List ℤ)
lines_of entries p = unwrap_or (option_map (λ e. e.prints) (entry_at entries p)) []
