-- Journals that are lawful and complete by blocks, and journals that are not lawful, over the runs and faults of
-- `JournalRows`.
use Rattle.std.proofs.Common.{ℕ, true, false, List, [], ◌∷◌, ◌++◌, map, None, refl}
use Rattle.std.proofs.lemmas.Bool.Decides.{not_from_Decides}
use Rattle.gp_base.specs.declared.journal.Event.{Event}
use Rattle.gp_base.specs.declared.journal.Event.TheVariants.{Issue, Post, Take, Restart, Retire}
use Rattle.task_ast.specs.meaning.Body.{body, stretch}
use Rattle.task_ast.specs.meaning.Repeat.{steps, repeated, until_done}
use Rattle.task_ast.specs.meaning.Table.{numbers}
use Rattle.dependence.specs.meaning.Restarts.{Dependence}
use Rattle.dependence.specs.meaning.Journal.{Lawful, Complete}
use Rattle.dependence.proofs.Auditing.{lawful-decides, complete-decides}
use Rattle.dependence.proofs.JournalRows.{adders, faults, runs, runs_again, settler, early_fault}
use Rattle.rollback.specs.meaning.Cuts.{is_cut, rolling}

-- all from position 4 on runs again
abbrev struck : List Event
struck =
    runs 0 ++ runs 1 ++ runs 2 ++ runs 3 ++ runs 4 ++ runs 5 ++ runs 6 ++ runs 7
    ++ Restart 0 ∷ runs_again 4 ++ runs_again 5 ++ runs_again 6 ++ runs_again 7 ++ runs 8 ++ runs 9 ++ runs 10
    ++ Retire 0 ∷ Retire 1 ∷ Retire 2 ∷ Retire 3 ∷ Retire 4 ∷ Retire 5 ∷ Retire 6 ∷ Retire 7 ∷ Retire 8 ∷ Retire 9 ∷ Retire 10 ∷ []

struck_journal : Complete (rolling (is_cut 4 adders) adders) faults struck
unfolding steps body stretch until_done repeated
struck_journal = (complete-decides (rolling (is_cut 4 adders) adders) faults struck).0 refl

-- a position of the next block waits until all before its block is applied, here position 2
abbrev early : List Event
early = runs 0 ++ runs 1 ++ Issue 2 ∷ runs 3 ++ Issue 4 ∷ Issue 5 ∷ Post 5 0 ∷ []

posted_early : ¬ Lawful (rolling (is_cut 4 adders) adders) faults early
unfolding steps body stretch until_done repeated
posted_early = not_from_Decides _ (lawful-decides (rolling (is_cut 4 adders) adders) faults early) refl

-- a settle is a cut, at which all before it retire
abbrev settled : List Event
settled =
    runs 0 ++ runs 1 ++ runs 2 ++ Restart 0 ∷ runs_again 0 ++ runs_again 1 ++ runs_again 2
    ++ Retire 0 ∷ Retire 1 ∷ Retire 2 ∷ runs 3 ++ runs 4 ++ runs 5 ++ Retire 3 ∷ Retire 4 ∷ Retire 5 ∷ []

settled_journal : Complete (rolling (is_cut 100 settler) settler) early_fault settled
unfolding steps body stretch until_done repeated
settled_journal = (complete-decides (rolling (is_cut 100 settler) settler) early_fault settled).0 refl

-- a run of a hundred subthreads, no two of them in conflict, of which 68 are issued
abbrev apart : Dependence
apart = record { count = 100; clash = λ p q. false; redo = λ struck front. struck ∷ []; before = λ p. None; settles = λ p. false; block = λ p. p }

abbrev issued : List Event
issued = map Issue (numbers 0 68)

abbrev applied : ℕ → List Event
applied p = Post p 0 ∷ Take p 0 true ∷ []

-- no fault can strike position 0 any more, but one can strike position 3, which would roll it back
abbrev uncleared : List Event
uncleared = map Issue (numbers 0 67) ++ applied 0 ++ applied 1 ++ applied 2 ++ applied 3 ++ Retire 0 ∷ []

retired_early : ¬ Lawful (rolling (is_cut 4 apart) apart) [] uncleared
retired_early = not_from_Decides _ (lawful-decides (rolling (is_cut 4 apart) apart) [] uncleared) refl

-- one issue later its block is clear
abbrev cleared : List Event
cleared = issued ++ applied 0 ++ applied 1 ++ applied 2 ++ applied 3 ++ Retire 0 ∷ Retire 1 ∷ Retire 2 ∷ Retire 3 ∷ []

retired_by_block : Lawful (rolling (is_cut 4 apart) apart) [] cleared
retired_by_block = (lawful-decides (rolling (is_cut 4 apart) apart) [] cleared).0 refl

-- but only where all of it is applied
abbrev unapplied : List Event
unapplied = issued ++ applied 0 ++ applied 1 ++ applied 2 ++ Retire 0 ∷ []

retired_alone : ¬ Lawful (rolling (is_cut 4 apart) apart) [] unapplied
retired_alone = not_from_Decides _ (lawful-decides (rolling (is_cut 4 apart) apart) [] unapplied) refl
