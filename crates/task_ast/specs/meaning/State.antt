-- The data state of a run.
use Rattle.std.specs.Prelude.{ℕ, ℤ, pos, List, [], ◌∷◌, unwrap_or, slice_get, replicate, cond, nat_eq}

-- a location of the data: the registers of a thread, or one cell of the records
pub data Location : Type 0 where
  RegistersOf : (thread : ℕ) → Location
  CellOf : (cell : ℕ) → Location

-- a state gives each location its numbers: a thread its registers, a cell its one value
abbrev pub State : Type 0
State = Location → List ℤ

-- the number at a place of a list, or 0
abbrev pub number_at : List ℤ → ℕ → ℤ
number_at numbers k = unwrap_or (slice_get numbers k) (pos 0)

-- the value of a record cell
abbrev pub cell_value : State → ℕ → ℤ
cell_value state c = number_at (state (CellOf c)) 0

-- these cells, and no registers
abbrev pub opened : List ℤ → State
opened cells (RegistersOf t) = []
opened cells (CellOf c) = number_at cells c ∷ []

-- the thread's registers are so many and 0, and all else is as before
abbrev pub with_registers : ℕ → ℕ → State → State
with_registers t count before (RegistersOf other) = cond (nat_eq t other) (replicate count (pos 0)) (before (RegistersOf other))
with_registers t count before (CellOf c) = before (CellOf c)
