-- Which faults strike, as far as the entries tell.
use Rattle.std.specs.Prelude.{◌≡◌, ℕ, ◌+◌, ◌*◌, ◌≤◌, Bool, true, false, cond, ◌&&◌, ◌||◌, nat_eq, nat_le, List, Contains, Option, Some, None}
use Rattle.std.specs.List.Sorted.{IsPermutation, IsNonDecreasingBy}
use Rattle.std.specs.Option.{option_or}
use Rattle.gp_base.specs.declared.fault.Fault.{Fault}
use Rattle.reorder_list.specs.declared.entry.Entry.{Entry}
use Rattle.reorder_list.specs.Entries.{entry_at}
use Rattle.dependence.specs.meaning.Restarts.{least_struck}

-- whether a fault names the attempt of the entry, and is due at this front or need not be
abbrev pub strikes_entry : (any : Bool) → (front : ℕ) → Fault → Option Entry → Bool
strikes_entry any front fault None = false
strikes_entry any front fault (Some e) = nat_eq fault.attempt e.attempt && (any || nat_le (e.begun + fault.delay) front)

-- whether it strikes the entry of its position
abbrev pub strikes : (any : Bool) → List Entry → (front : ℕ) → Fault → Bool
strikes any entries front fault = strikes_entry any front fault (entry_at entries fault.pos)

-- the least position with a fault that is due, or else, where the end is known, with any
abbrev pub struck_in : (known : Bool) → List Entry → (front : ℕ) → List Fault → Option ℕ
struck_in known entries front faults =
    option_or (least_struck (strikes false entries front) faults) (cond known (least_struck (strikes true entries front) faults) None)

-- a number for a position and an attempt, and that of a fault
abbrev pub key_of : (position attempt : ℕ) → ℕ
key_of position attempt = position * 4294967296 + attempt

abbrev pub rank : Fault → ℕ
rank fault = key_of fault.pos fault.attempt

-- the same faults, by position and then by attempt
pub record AreInOrder (given list : List Fault) : Type 0 where
  pub same : IsPermutation given list
  pub rises : IsNonDecreasingBy rank list

-- the least position of the faults that pass a test, or none where none passes
abbrev pub IsLeastOf : (Fault → Bool) → List Fault → Option ℕ → Type 0
IsLeastOf test faults None = (fault : Fault) → Contains faults fault → test fault ≡ false
IsLeastOf test faults (Some p) =
    ((fault : Fault) × Contains faults fault × (test fault ≡ true) × (fault.pos ≡ p))
    × ((fault : Fault) → Contains faults fault → test fault ≡ true → p ≤ fault.pos)
