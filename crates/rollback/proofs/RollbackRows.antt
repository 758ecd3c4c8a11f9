-- The rollbacks of the worked rows, computed from the plain run's order.
use Rattle.std.proofs.Common.{◌≡◌, ℕ, pos, List, [], ◌∷◌, refl}
use Rattle.gp_base.specs.declared.fault.Fault.{Fault}
use Rattle.gp_base.specs.declared.journal.Restart.{Restart}
use Rattle.task_ast.specs.meaning.Body.{body, stretch}
use Rattle.task_ast.specs.meaning.Repeat.{steps, repeated, until_done}
use Rattle.task_ast.specs.meaning.Plain.{Subthread}
use Rattle.task_ast.specs.Plain.{order}
use Rattle.task_ast.proofs.RowPrograms.{two_adders, settling}
use Rattle.task_ast.proofs.RunRows.{zeros, limits}
use Rattle.rollback.specs.Cuts.{rollbacks_of}

abbrev adders : List Subthread
adders = order two_adders (zeros 1) (limits 1000 20)

abbrev fault : (position delay : ℕ) → Fault
fault position delay = record { pos = position; attempt = 0; delay = delay; mask = pos 1 }

abbrev rollback : (front struck : ℕ) → List ℕ → Restart
rollback front struck redo = record { front = front; struck = struck; attempt = 0; redo = redo }

back_to_a_cut : rollbacks_of 4 adders (fault 4 3 ∷ []) ≡ rollback 8 4 (4 ∷ 5 ∷ 6 ∷ 7 ∷ []) ∷ []
unfolding steps body stretch until_done repeated
back_to_a_cut = refl

back_to_the_start : rollbacks_of 100 adders (fault 4 3 ∷ []) ≡ rollback 8 4 (0 ∷ 1 ∷ 2 ∷ 3 ∷ 4 ∷ 5 ∷ 6 ∷ 7 ∷ []) ∷ []
unfolding steps body stretch until_done repeated
back_to_the_start = refl

back_from_the_end : rollbacks_of 4 adders (fault 4 6 ∷ []) ≡ rollback 11 4 (4 ∷ 5 ∷ 6 ∷ 7 ∷ 8 ∷ 9 ∷ 10 ∷ []) ∷ []
unfolding steps body stretch until_done repeated
back_from_the_end = refl

back_before_what_is_struck : rollbacks_of 4 adders (fault 6 1 ∷ []) ≡ rollback 8 6 (4 ∷ 5 ∷ 6 ∷ 7 ∷ []) ∷ []
unfolding steps body stretch until_done repeated
back_before_what_is_struck = refl

-- position 3 is a settle, so that it is a cut
back_to_the_settle : rollbacks_of 100 (order settling (zeros 3) (limits 1000 20)) (fault 4 60 ∷ []) ≡ rollback 6 4 (3 ∷ 4 ∷ 5 ∷ []) ∷ []
unfolding steps body stretch until_done repeated
back_to_the_settle = refl
