-- The rows of a log of retirements, as bytes.
use Rattle.std.specs.Prelude.{◌<◌, ◌^◌, ℕ, ℤ, pos, negsuc, List, [], ◌∷◌, ◌++◌, All, codes, flat_map}
use Rattle.std.specs.Fmt.{signed_decimal}
use Rattle.restart_log.specs.meaning.Lines.{spaced}

-- a row: a position, the bytes of the text up to the end of its lines, the registers that it left to its thread and to
-- a child, and the cells that it wrote, each with its value
pub record Retirement : Type 0 where
  pub position : ℤ
  pub bytes : ℤ
  pub regs : List ℤ
  pub child : List ℤ
  pub cells : List (ℤ × ℤ)

-- a number of 64 bits, with a sign
abbrev pub IsWide : ℤ → Type 0
IsWide (pos n) = n < 2 ^ 63
IsWide (negsuc n) = n < 2 ^ 63

-- the number of a cell and its value are
abbrev pub IsWideCell : ℤ × ℤ → Type 0
IsWideCell cell = IsWide cell.0 × IsWide cell.1

-- each number of the row is
pub record IsWideRow (row : Retirement) : Type 0 where
  pub position : IsWide row.position
  pub bytes : IsWide row.bytes
  pub regs : All IsWide row.regs
  pub child : All IsWide row.child
  pub cells : All IsWideCell row.cells

-- a group of numbers
abbrev pub group : List ℤ → List ℕ
group values = codes " ;" ++ spaced values

-- a cell and its value
abbrev pub cell_numbers : ℤ × ℤ → List ℤ
cell_numbers cell = cell.0 ∷ cell.1 ∷ []

-- the three groups of a row
abbrev pub groups_text : Retirement → List ℕ
groups_text row = group row.regs ++ group row.child ++ group (flat_map cell_numbers row.cells) ++ codes "\n"

abbrev pub row_text : Retirement → List ℕ
row_text row = signed_decimal row.position ++ codes " " ++ signed_decimal row.bytes ++ groups_text row

abbrev pub log_text : List Retirement → List ℕ
log_text = flat_map row_text
