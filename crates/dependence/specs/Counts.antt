-- Lawful and complete journals in counts of their events.
use Rattle.std.specs.Prelude.{◌≡◌, ◌↔◌, ℕ, suc, ◌≤◌, Bool, true, false, List, [], ◌∷◌, ◌++◌, length, take, count_by, Contains, Some, slice_get}
use Rattle.std.specs.List.{IsDistinct}
use Rattle.gp_base.specs.declared.fault.Fault.{Fault}
use Rattle.gp_base.specs.declared.journal.Event.{Event}
use Rattle.gp_base.specs.declared.journal.Event.TheVariants as event
use Rattle.gp_base.specs.declared.journal.Restart.{Restart}
use Rattle.task_ast.specs.meaning.Table.{numbers}
use Rattle.dependence.specs.meaning.Restarts.{Dependence, redoes, attempt_of, restarts}
use Rattle.dependence.specs.Restarts.{RedoesStruck}
use Rattle.dependence.specs.meaning.Journal.{Lawful, Complete, stage}
use Rattle.dependence.specs.JournalTests.{same_attempt}
use Rattle.dependence.specs.Standing.{KeepsClean}
use Rattle.dependence.specs.meaning.Counts.{is_restart}

abbrev pub is_issue : Event → Bool
is_issue (event.Issue p) = true
is_issue _ = false

-- the positions that retire, in order
abbrev pub retirements : List Event → List ℕ
retirements [] = []
retirements (event.Retire p ∷ events) = p ∷ retirements events
retirements (_ ∷ events) = retirements events

-- the pairs of position and attempt that are posted, in order
abbrev pub posts : List Event → List (ℕ × ℕ)
posts [] = []
posts (event.Post p attempt ∷ events) = (p, attempt) ∷ posts events
posts (_ ∷ events) = posts events

-- the pairs that are taken, in order
abbrev pub takes : List Event → List (ℕ × ℕ)
takes [] = []
takes (event.Take p attempt applies ∷ events) = (p, attempt) ∷ takes events
takes (_ ∷ events) = takes events

-- a lawful journal with an issue and a retirement for each position and with all restarts
pub record HasAll (dependence : Dependence) (faults : List Fault) (events : List Event) : Type 0 where
  pub lawful : Lawful dependence faults events
  pub issues : count_by is_issue events ≡ dependence.count
  pub restarts : count_by is_restart events ≡ length (restarts dependence faults)
  pub retirements : length (retirements events) ≡ dependence.count

-- a journal is complete exactly where it has all
abbrev pub CompleteLaw : Type 0
CompleteLaw =
    (dependence : Dependence) (faults : List Fault) (events : List Event) → KeepsClean dependence faults
    → Complete dependence faults events ↔ HasAll dependence faults events

-- positions retire in order, from 0
abbrev pub RetirementsLaw : Type 0
RetirementsLaw =
    (dependence : Dependence) (faults : List Fault) (events : List Event) → Lawful dependence faults events
    → retirements events ≡ numbers 0 (length (retirements events))

-- no attempt is posted twice, and none is taken twice
abbrev pub OnceLaw : Type 0
OnceLaw =
    (dependence : Dependence) (faults : List Fault) (events : List Event) → Lawful dependence faults events
    → IsDistinct same_attempt (posts events) × IsDistinct same_attempt (takes events)

-- what has retired was posted and taken at its present attempt
abbrev pub RanLaw : Type 0
RanLaw =
    (dependence : Dependence) (faults : List Fault) (events : List Event) (p : ℕ) → KeepsClean dependence faults
    → Lawful dependence faults events → Contains (retirements events) p
    → let made = (stage dependence faults events).progress.made in
    Contains (posts events) (p, attempt_of made p) × Contains (takes events) (p, attempt_of made p)

-- an attempt after the first is posted only after a restart that redoes the position ended the attempt before
abbrev pub RunsAgainLaw : Type 0
RunsAgainLaw =
    (dependence : Dependence) (faults : List Fault) (events : List Event) (p attempt : ℕ)
    → Lawful dependence faults (events ++ event.Post p (suc attempt) ∷ [])
    → let made = (stage dependence faults events).progress.made in
    (number : ℕ) × (restart : Restart) × (slice_get made number ≡ Some restart) × (redoes p restart ≡ true)
    × (attempt_of (take number made) p ≡ attempt)

-- there are no more restarts than faults, and so no attempt has a greater number
abbrev pub AttemptsLaw : Type 0
AttemptsLaw =
    (dependence : Dependence) (faults : List Fault) (events : List Event) → RedoesStruck dependence → Lawful dependence faults events
    → let made = (stage dependence faults events).progress.made in
    (length made ≤ length faults) × ((p : ℕ) → attempt_of made p ≤ length faults)
