-- The log of a worked example, computed.
use Rattle.std.proofs.Common.{◌≡◌, ℕ, ℤ, pos, List, [], ◌∷◌, refl}
use Rattle.std.specs.Prelude.{Option, Some, slice_get}
use Rattle.std.specs.Int.{int_wrap}
use Rattle.task_ast.specs.meaning.Body.{body, stretch}
use Rattle.task_ast.specs.meaning.Repeat.{steps, state_after, repeated, until_done}
use Rattle.task_ast.proofs.RowPrograms.{two_adders}
use Rattle.task_ast.proofs.RunRows.{zeros, limits}
use Rattle.retirement_log.specs.meaning.Rows.{Retirement}
use Rattle.crew.specs.meaning.Noted.{left_in_order}
use Rattle.retirement_log.specs.meaning.Log.{log_rows}

abbrev adders : List Retirement
adders = log_rows (left_in_order two_adders (zeros 1) (limits 1000 20))

abbrev row : ℕ → List ℤ → List ℤ → List (ℤ × ℤ) → Option Retirement
row p regs child cells = Some (record { position = pos p; bytes = pos 7; regs = regs; child = child; cells = cells })

start_of_main : slice_get adders 0 ≡ row 0 (pos 0 ∷ []) [] []
unfolding steps state_after body stretch until_done repeated int_wrap
start_of_main = refl

first_fork : slice_get adders 1 ≡ row 1 (pos 0 ∷ []) (pos 0 ∷ pos 0 ∷ []) []
unfolding steps state_after body stretch until_done repeated int_wrap
first_fork = refl

first_lock : slice_get adders 4 ≡ row 4 (pos 0 ∷ pos 0 ∷ []) [] ((pos 0, pos 3) ∷ [])
unfolding steps state_after body stretch until_done repeated int_wrap
first_lock = refl

second_lock : slice_get adders 7 ≡ row 7 (pos 0 ∷ pos 3 ∷ []) [] ((pos 0, pos 7) ∷ [])
unfolding steps state_after body stretch until_done repeated int_wrap
second_lock = refl
