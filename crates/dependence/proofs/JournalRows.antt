-- Journals that are lawful and complete, and journals that are not lawful.
use Rattle.std.proofs.Common.{ℕ, true, false, List, [], ◌∷◌, ◌++◌, pos, refl}
use Rattle.std.proofs.lemmas.Bool.Decides.{not_from_Decides}
use Rattle.gp_base.specs.declared.fault.Fault.{Fault}
use Rattle.gp_base.specs.declared.journal.Event.{Event}
use Rattle.gp_base.specs.declared.journal.Event.TheVariants.{Issue, Post, Take, Restart, Retire}
use Rattle.task_ast.specs.meaning.Body.{body, stretch}
use Rattle.task_ast.specs.meaning.Repeat.{steps, repeated, until_done}
use Rattle.task_ast.specs.Plain.{order}
use Rattle.task_ast.proofs.RowPrograms.{empty_batch, two_adders, settling}
use Rattle.task_ast.proofs.RunRows.{zeros, limits}
use Rattle.dependence.specs.meaning.Restarts.{Dependence}
use Rattle.dependence.specs.meaning.Journal.{Lawful, Complete}
use Rattle.dependence.specs.meaning.Runs.{dependence_of}
use Rattle.dependence.proofs.Auditing.{lawful-decides, complete-decides}

abbrev empty_dependence : Dependence
empty_dependence = dependence_of (order empty_batch (zeros 0) (limits 10 20))

empty_journal : Complete empty_dependence [] (Issue 0 ∷ Post 0 0 ∷ Take 0 0 true ∷ Retire 0 ∷ [])
unfolding steps body stretch until_done repeated
empty_journal = (complete-decides empty_dependence [] (Issue 0 ∷ Post 0 0 ∷ Take 0 0 true ∷ Retire 0 ∷ [])).0 refl

-- two threads that add to one record; a fault on position 4 is due at front 8
abbrev pub adders : Dependence
adders = dependence_of (order two_adders (zeros 1) (limits 1000 20))

abbrev pub faults : List Fault
faults = record { pos = 4; attempt = 0; delay = 3; mask = pos 1 } ∷ []

abbrev pub runs : ℕ → List Event
runs p = Issue p ∷ Post p 0 ∷ Take p 0 true ∷ []

abbrev pub runs_again : ℕ → List Event
runs_again p = Post p 1 ∷ Take p 1 true ∷ []

-- up to front 8, with position 7 posted
abbrev up_to_fault : List Event
up_to_fault = runs 0 ++ runs 1 ++ runs 2 ++ runs 3 ++ runs 4 ++ runs 5 ++ runs 6 ++ Issue 7 ∷ Post 7 0 ∷ []

-- the restart comes, and then the result of an attempt that it ended
abbrev struck : List Event
struck =
    up_to_fault ++ Restart 0 ∷ Take 7 0 false ∷ runs_again 4 ++ runs_again 6 ++ runs_again 7 ++ runs 8 ++ runs 9 ++ runs 10
    ++ Retire 0 ∷ Retire 1 ∷ Retire 2 ∷ Retire 3 ∷ Retire 4 ∷ Retire 5 ∷ Retire 6 ∷ Retire 7 ∷ Retire 8 ∷ Retire 9 ∷ Retire 10 ∷ []

struck_journal : Complete adders faults struck
unfolding steps body stretch until_done repeated
struck_journal = (complete-decides adders faults struck).0 refl

-- each of these is lawful but for its last event: nothing is issued while a fault is due
issued_late : ¬ Lawful adders faults (up_to_fault ++ Issue 8 ∷ [])
unfolding steps body stretch until_done repeated
issued_late = not_from_Decides _ (lawful-decides adders faults (up_to_fault ++ Issue 8 ∷ [])) refl

-- the result of an attempt that a restart ended is not applied
applied_stale : ¬ Lawful adders faults (up_to_fault ++ Restart 0 ∷ Take 7 0 true ∷ [])
unfolding steps body stretch until_done repeated
applied_stale = not_from_Decides _ (lawful-decides adders faults (up_to_fault ++ Restart 0 ∷ Take 7 0 true ∷ [])) refl

-- a position waits for each earlier one in conflict with it, here position 4
posted_early : ¬ Lawful adders faults (up_to_fault ++ Restart 0 ∷ Post 6 1 ∷ [])
unfolding steps body stretch until_done repeated
posted_early = not_from_Decides _ (lawful-decides adders faults (up_to_fault ++ Restart 0 ∷ Post 6 1 ∷ [])) refl

-- a fault could still come for what has just been applied
retired_early : ¬ Lawful adders faults (runs 0 ++ Retire 0 ∷ [])
unfolding steps body stretch until_done repeated
retired_early = not_from_Decides _ (lawful-decides adders faults (runs 0 ++ Retire 0 ∷ [])) refl

-- a settle comes when all before it have retired, and none of them damaged
abbrev pub settler : Dependence
settler = dependence_of (order settling (zeros 3) (limits 1000 20))

abbrev pub early_fault : List Fault
early_fault = record { pos = 1; attempt = 0; delay = 60; mask = pos 1 } ∷ []

abbrev settled : List Event
settled =
    runs 0 ++ runs 1 ++ runs 2 ++ Restart 0 ∷ runs_again 1 ++ runs_again 2 ++ Retire 0 ∷ Retire 1 ∷ Retire 2 ∷ runs 3 ++ runs 4 ++ runs 5
    ++ Retire 3 ∷ Retire 4 ∷ Retire 5 ∷ []

settled_journal : Complete settler early_fault settled
unfolding steps body stretch until_done repeated
settled_journal = (complete-decides settler early_fault settled).0 refl

settled_early : ¬ Lawful settler [] (runs 0 ++ runs 1 ++ runs 2 ++ Issue 3 ∷ [])
unfolding steps body stretch until_done repeated
settled_early = not_from_Decides _ (lawful-decides settler [] (runs 0 ++ runs 1 ++ runs 2 ++ Issue 3 ∷ [])) refl
