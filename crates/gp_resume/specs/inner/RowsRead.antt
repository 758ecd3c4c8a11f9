-- Rows as the code has them, and how they are read.
use Rattle.std.specs.Prelude.{◌≡◌, List, ◌++◌, map, ℕ, ℤ, Option, Some, None}
use Rattle.task_ast.specs.declared.effect.Effect.{Effect}
use Rattle.task_ast.specs.meaning.Names.{natural}
use Rattle.record_store.specs.declared.effect.Effect as left
use Rattle.retirement_log.specs.meaning.Rows.{Retirement, row_text, IsWideRow}
use Rattle.gp_resume.specs.declared.row.LogRow.{LogRow}

-- the row that this is
abbrev pub row_in : LogRow → Retirement
row_in row = record { position = row.position; bytes = row.bytes; regs = row.regs; child = row.child; cells = row.cells }

-- a cell that a row names, with its value
abbrev pub write_in : ℤ × ℤ → ℕ × ℤ
write_in cell = (natural cell.0, cell.1)

-- what is left beside cells, with the cells that a row names
abbrev pub with_cells : left.Effect → List (ℤ × ℤ) → Effect
with_cells e cells = record { thread = e.thread; writes = map write_in cells; regs = e.regs; child = e.child; prints = e.prints }

-- a row stands at the front of these bytes
pub record BeginsWithRow (bytes : List ℕ) : Type 0 where
  pub row : Retirement
  pub wide : IsWideRow row
  pub rest : List ℕ
  pub bytes_are : bytes ≡ row_text row ++ rest

-- the row at the front of the bytes, with what comes after it; or there is none
abbrev pub IsRowRead : (bytes : List ℕ) → Option (Retirement × List ℕ) → Type 0
IsRowRead bytes (Some read) = IsWideRow read.0 × (bytes ≡ row_text read.0 ++ read.1)
IsRowRead bytes None = ¬ BeginsWithRow bytes
