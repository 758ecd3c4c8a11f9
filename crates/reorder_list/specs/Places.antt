-- Where entries stand in the list, and what is kept of them.
use Rattle.std.specs.Prelude.{◌≡◌, ◌+◌, ◌<◌, ℕ, IsTrue, All, is_some, List, length}
use Rattle.reorder_list.specs.declared.entry.Entry.{Entry}
use Rattle.reorder_list.specs.Entries.{first_position, IsInRow, is_applied}

-- the position has this place
pub record IsPlaceOf (entries : List Entry) (p place : ℕ) : Type 0 where
  pub within : place < length entries
  pub position : p ≡ first_position entries + place

-- an entry has a history only where it is applied
abbrev pub IsHistoryOfApplied : Entry → Type 0
IsHistoryOfApplied e = IsTrue (is_some e.hist) → IsTrue (is_applied e.state)

-- the positions follow one another, and no entries but those that are applied have histories
pub record IsKept (entries : List Entry) : Type 0 where
  pub row : IsInRow entries
  pub histories : All IsHistoryOfApplied entries
