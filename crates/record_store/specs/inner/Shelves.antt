-- The cells of all records on shelves, one for each lock cell.
use Rattle.std.specs.Prelude.{◌≡◌, ℕ, ℤ, Bool, true, false, List, [], map, length, Some, slice_get, slice_index_or}
use Rattle.task_ast.specs.meaning.State.{number_at}
use Rattle.task_ast.specs.meaning.Under.{under_lock}
use Rattle.record_store.specs.declared.shelf.CellShelf.{CellShelf}
use Rattle.record_store.specs.declared.shelf.CellShelf.TheVariants.{Home, Lent}

-- the values of a shelf, or those with which it was lent
abbrev pub seen : CellShelf → List ℤ
seen (Home cells) = cells
seen (Lent cells) = cells.value

abbrev pub is_away : CellShelf → Bool
is_away (Home cells) = false
is_away (Lent cells) = true

-- the value at a place: a shelf, and a number on it
abbrev pub value_on : (shelves : List (List ℤ)) → (place : ℕ × ℕ) → ℤ
value_on shelves place = number_at (slice_index_or shelves place.0 []) place.1

-- the values of all cells, each at its place
abbrev pub cells_on : (shelves : List (List ℤ)) → (places : List (ℕ × ℕ)) → List ℤ
cells_on shelves places = map (value_on shelves) places

-- each cell has its place under one lock cell, and each place is that of a cell
pub record ArePlaced (under : List (List ℕ)) (places : List (ℕ × ℕ)) : Type 0 where
  pub found : (c : ℕ) (place : ℕ × ℕ) → slice_get places c ≡ Some place → slice_get (under_lock under place.0) place.1 ≡ Some c
  pub placed : (l k c : ℕ) → slice_get (under_lock under l) k ≡ Some c → slice_get places c ≡ Some (l, k)

-- and each shelf has the values of the cells under its lock cell
pub record AreStocked (under : List (List ℕ)) (places : List (ℕ × ℕ)) (shelves : List (List ℤ)) : Type 0 where
  pub cells : ArePlaced under places
  pub sizes : map length shelves ≡ map length under

-- and there is room for the values of all cells
pub record IsKept (under : List (List ℕ)) (places : List (ℕ × ℕ)) (shelves : List (List ℤ)) (room : ℕ) : Type 0 where
  pub stocked : AreStocked under places shelves
  pub room_is : room ≡ length places

-- a shelf at home with the values of these cells
abbrev pub new_shelf : (cells : List ℤ) → (numbers : List ℕ) → CellShelf
new_shelf cells numbers = Home (map (number_at cells) numbers)
