-- Folds of the two adders, computed.
use Rattle.std.proofs.Common.{◌≡◌, ℕ, ℤ, pos, Bool, true, false, cond, refl, nat_eq}
use Rattle.std.specs.Int.{int_wrap}
use Rattle.task_ast.specs.meaning.Body.{body, stretch}
use Rattle.task_ast.specs.meaning.Repeat.{steps, repeated, until_done}
use Rattle.task_ast.specs.meaning.State.{cell_value}
use Rattle.task_ast.specs.Plain.{order, opening}
use Rattle.task_ast.specs.Fold.{fold}
use Rattle.task_ast.specs.Members.{member_in}
use Rattle.task_ast.proofs.RowPrograms.{two_adders}
use Rattle.task_ast.proofs.RunRows.{zeros, limits}

-- the total after these positions below the front, where the attempt of position 4 has this mask
abbrev total : (mask : ℤ) → (set : ℕ → Bool) → (front : ℕ) → ℤ
total mask set front =
    cell_value (fold (member_in (order two_adders (zeros 1) (limits 1000 20)) (λ p. cond (nat_eq p 4) mask (pos 0)))
    (opening two_adders (zeros 1) (limits 1000 20)).state set front) 0

-- all positions but 4, 6 and 7
abbrev kept : ℕ → Bool
kept p = cond (nat_eq p 4) false (cond (nat_eq p 6) false (cond (nat_eq p 7) false true))

whole : total (pos 0) (λ p. true) 11 ≡ pos 7
unfolding steps body stretch until_done repeated int_wrap
whole = refl

-- the damaged total 2 comes into what position 7 writes
damaged_total : total (pos 1) (λ p. true) 8 ≡ pos 6
unfolding steps body stretch until_done repeated int_wrap
damaged_total = refl

-- without position 4 and its dependents nothing was written
undone : total (pos 1) kept 8 ≡ pos 0
unfolding steps body stretch until_done repeated int_wrap
undone = refl
