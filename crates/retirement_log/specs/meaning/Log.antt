-- The log of a run: what each position left, in order.
use Rattle.std.specs.Prelude.{ℕ, suc, ℤ, pos, ◌+◌, List, [], ◌∷◌, length, map, codes, Option, Some, None}
use Rattle.gp_base.specs.declared.limits.Limits.{Limits}
use Rattle.gp_base.specs.declared.feed.Inputs.{Inputs}
use Rattle.task_ast.specs.declared.effect.Effect.{Effect}
use Rattle.task_ast.specs.meaning.Tree.{Program}
use Rattle.restart_log.specs.meaning.Lines.{printed}
use Rattle.crew.specs.meaning.Noted.{left_in_order}
use Rattle.retirement_log.specs.meaning.Rows.{Retirement, log_text}

-- the registers that an effect leaves to a child, if it has one
abbrev pub child_left : Option (ℕ × List ℤ) → List ℤ
child_left None = []
child_left (Some child) = child.1

-- a cell that was written, with its number as a number of a row
abbrev pub numbered : ℕ × ℤ → ℤ × ℤ
numbered write = (pos write.0, write.1)

-- the row of a position that left this, with so many bytes of the text up to the end of its lines
abbrev pub log_row : (position bytes : ℕ) → Effect → Retirement
log_row p bytes e =
    record { position = pos p; bytes = pos bytes; regs = e.regs; child = child_left e.child; cells = map numbered e.writes }

-- the bytes of the lines of a position that left this
abbrev pub size_of : Effect → ℕ
size_of e = length (printed e.prints)

-- the rows of positions that left these, from one on, before whose lines the text has so many bytes
abbrev pub rows_from : (position bytes : ℕ) → List Effect → List Retirement
rows_from p bytes [] = []
rows_from p bytes (e ∷ rest) = log_row p (bytes + size_of e) e ∷ rows_from (suc p) (bytes + size_of e) rest

-- the rows of the first positions, which left these; the first line of the text comes before their lines
abbrev pub log_rows : List Effect → List Retirement
log_rows told = rows_from 0 (length (codes "output\n")) told

-- their log
abbrev pub log_told : List Effect → List ℕ
log_told told = log_text (log_rows told)

-- the log of the plain run
abbrev pub log : Program → Inputs → Limits → List ℕ
log program inputs limits = log_told (left_in_order program inputs limits)
