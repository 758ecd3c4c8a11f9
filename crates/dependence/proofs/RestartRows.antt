-- The restarts of the worked rows, computed from the plain run's order.
use Rattle.std.proofs.Common.{◌≡◌, ℕ, pos, List, [], ◌∷◌, refl}
use Rattle.gp_base.specs.declared.fault.Fault.{Fault}
use Rattle.gp_base.specs.declared.journal.Restart.{Restart}
use Rattle.task_ast.specs.meaning.Body.{body, stretch}
use Rattle.task_ast.specs.meaning.Repeat.{steps, repeated, until_done}
use Rattle.task_ast.specs.meaning.Plain.{Subthread}
use Rattle.task_ast.specs.Plain.{order}
use Rattle.task_ast.proofs.RowPrograms.{two_adders, reader_and_adder, settling}
use Rattle.task_ast.proofs.RunRows.{zeros, limits}
use Rattle.dependence.specs.meaning.Runs.{restarts_of}

abbrev adders : List Subthread
adders = order two_adders (zeros 1) (limits 1000 20)

abbrev fault : (position attempt delay mask : ℕ) → Fault
fault position attempt delay mask = record { pos = position; attempt = attempt; delay = delay; mask = pos mask }

abbrev restart : (front struck attempt : ℕ) → List ℕ → Restart
restart front struck attempt redo = record { front = front; struck = struck; attempt = attempt; redo = redo }

due_after_three : restarts_of adders (fault 4 0 3 1 ∷ []) ≡ restart 8 4 0 (4 ∷ 6 ∷ 7 ∷ []) ∷ []
unfolding steps body stretch until_done repeated
due_after_three = refl

due_at_the_last_front : restarts_of adders (fault 4 0 6 1 ∷ []) ≡ restart 11 4 0 (4 ∷ 6 ∷ 7 ∷ 8 ∷ 9 ∷ 10 ∷ []) ∷ []
unfolding steps body stretch until_done repeated
due_at_the_last_front = refl

due_past_the_last_front : restarts_of adders (fault 10 0 64 1 ∷ []) ≡ restart 11 10 0 (10 ∷ []) ∷ []
unfolding steps body stretch until_done repeated
due_past_the_last_front = refl

due_at_once : restarts_of adders (fault 0 0 0 5 ∷ []) ≡ restart 1 0 0 (0 ∷ []) ∷ []
unfolding steps body stretch until_done repeated
due_at_once = refl

struck_thrice : restarts_of adders (fault 4 0 1 9 ∷ fault 4 1 1 9 ∷ fault 4 2 1 9 ∷ []) ≡
    restart 6 4 0 (4 ∷ []) ∷ restart 7 4 1 (4 ∷ 6 ∷ []) ∷ restart 8 4 2 (4 ∷ 6 ∷ 7 ∷ []) ∷ []
unfolding steps body stretch until_done repeated
struck_thrice = refl

-- the restart for the one ends the attempt that the other names
two_due : restarts_of adders (fault 4 0 3 1 ∷ fault 7 0 0 1 ∷ []) ≡ restart 8 4 0 (4 ∷ 6 ∷ 7 ∷ []) ∷ []
unfolding steps body stretch until_done repeated
two_due = refl

never_due : restarts_of adders (fault 1000 0 0 1 ∷ []) ≡ []
unfolding steps body stretch until_done repeated
never_due = refl

-- position 4 only reads, and the later writer is undone with it
reader_struck : restarts_of (order reader_and_adder (zeros 1) (limits 1000 20)) (fault 4 0 3 1 ∷ []) ≡ restart 8 4 0 (4 ∷ 6 ∷ 7 ∷ []) ∷ []
unfolding steps body stretch until_done repeated
reader_struck = refl

-- position 3 is a settle, so a fault is taken at its front whatever its delay
due_at_the_settle : restarts_of (order settling (zeros 3) (limits 1000 20)) (fault 1 0 60 1 ∷ []) ≡ restart 3 1 0 (1 ∷ 2 ∷ []) ∷ []
unfolding steps body stretch until_done repeated
due_at_the_settle = refl
