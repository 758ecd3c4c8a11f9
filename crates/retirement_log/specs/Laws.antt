-- What the rows of a run's log say of the text of that run.
use Rattle.std.specs.Prelude.{◌≡◌, ℕ, suc, pos, List, ◌++◌, length, take, codes, flat_map, slice_get, Some}
use Rattle.gp_base.specs.declared.limits.Limits.{Limits}
use Rattle.gp_base.specs.declared.feed.Inputs.{Inputs}
use Rattle.task_ast.specs.meaning.Tree.{Program}
use Rattle.task_ast.specs.meaning.Run.{plain_order}
use Rattle.restart_log.specs.meaning.Lines.{printed}
use Rattle.crew.specs.meaning.Noted.{left_in_order}
use Rattle.retirement_log.specs.meaning.Rows.{Retirement}
use Rattle.retirement_log.specs.meaning.Log.{log_rows}

-- the text of a run up to the end of the lines of its first positions
abbrev pub text_of_first : (positions : ℕ) → Program → Inputs → Limits → List ℕ
text_of_first count program inputs limits =
    codes "output\n" ++ printed (flat_map (λ s. s.lines) (take count (plain_order program inputs limits)))

-- each position of a run has a row
abbrev pub CountLaw : Type 0
CountLaw =
    (program : Program) (inputs : Inputs) (limits : Limits)
    → length (log_rows (left_in_order program inputs limits)) ≡ length (plain_order program inputs limits)

-- a row has its position, and how many bytes the text has up to the end of the lines of that
abbrev pub BytesLaw : Type 0
BytesLaw =
    (program : Program) (inputs : Inputs) (limits : Limits) (p : ℕ) (row : Retirement)
    → slice_get (log_rows (left_in_order program inputs limits)) p ≡ Some row
    → (row.position ≡ pos p) × (row.bytes ≡ pos (length (text_of_first (suc p) program inputs limits)))
