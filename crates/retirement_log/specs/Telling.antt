-- What notes that keep a log tell.
use Rattle.std.specs.Prelude.{◌≡◌, ◌≢◌, ℕ, ◌+◌, ◌-◌, ◌≤◌, List, length, All, codes, sum_by, slice_get, Option, Some}
use Rattle.std.specs.Io.KnownBytes.{Appends}
use Rattle.task_ast.specs.declared.effect.Effect.{Effect}
use Rattle.retirement_log.specs.meaning.Rows.{IsWideRow, groups_text}
use Rattle.retirement_log.specs.meaning.Log.{log_row, size_of, log_rows, log_told}
use Rattle.retirement_log.specs.declared.notes.Pending.{Pending}
use Rattle.retirement_log.specs.declared.notes.LogNotes.{LogNotes}

-- the groups of the row of a position that left this, and how many bytes its lines have; the groups have neither the
-- position nor the bytes before them, and their numbers are of 64 bits
pub record IsRowOf (row : Pending) (e : Effect) : Type 0 where
  pub groups : row.groups.items ≡ groups_text (log_row 0 0 e)
  pub size : row.size ≡ size_of e
  pub wide : IsWideRow (log_row 0 0 e)

-- they stand there
abbrev pub IsPending : Option (Option Pending) → Effect → Type 0
IsPending (Some (Some row)) e = IsRowOf row e
IsPending other e = ⊥

-- each place that has a row keeps it
abbrev pub KeepsRows : (before after : List (Option Pending)) → Type 0
KeepsRows before after = (k : ℕ) (row : Pending) → slice_get before k ≡ Some (Some row) → slice_get after k ≡ Some (Some row)

-- and each but this one
abbrev pub KeepsOthers : (at : ℕ) → (before after : List (Option Pending)) → Type 0
KeepsOthers at before after =
    (k : ℕ) (row : Pending) → k ≢ at → slice_get before k ≡ Some (Some row) → slice_get after k ≡ Some (Some row)

-- the first place has no row
abbrev pub LacksFirst : List (Option Pending) → Type 0
LacksFirst rows = (row : Pending) → slice_get rows 0 ≡ Some (Some row) → ⊥

-- The sink took the log of what has retired, whose numbers are of 64 bits. The notes have the number of these positions,
-- and of the bytes of the text up to the end of their lines, and the row of each later position, as the last of its
-- results that was noted left it.
pub record Tells (notes : LogNotes) (start written : Option (List ℕ)) (left : ℕ → Option Effect) (told : List Effect) : Type 0 where
  pub log : Appends start written (log_told told)
  pub wide : All IsWideRow (log_rows told)
  pub bytes : notes.bytes ≡ length (codes "output\n") + sum_by size_of told
  pub next : notes.next ≡ length told
  pub rows : (p : ℕ) (e : Effect) → notes.next ≤ p → left p ≡ Some e → IsPending (slice_get notes.rows.items (p - notes.next)) e
