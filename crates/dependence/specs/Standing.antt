-- What stands after the events of a lawful journal.
use Rattle.std.specs.Prelude.{◌≡◌, ℕ, ◌+◌, ◌≤◌, ◌<◌, true, List, All, Contains, Some, None}
use Rattle.gp_base.specs.declared.limits.TheConstants.{LONGEST_DELAY}
use Rattle.gp_base.specs.Faults.{IsInRange}
use Rattle.gp_base.specs.declared.fault.Fault.{Fault}
use Rattle.gp_base.specs.declared.journal.Event.{Event}
use Rattle.gp_base.specs.declared.journal.Event.TheVariants as event
use Rattle.task_ast.specs.meaning.Plain.{Subthread}
use Rattle.dependence.specs.meaning.Restarts.{Dependence, NoneLive, attempt_of, begun_of, struck_next}
use Rattle.dependence.specs.Restarts.{RedoesStruck}
use Rattle.dependence.specs.meaning.Journal.{Stage, initial_stage, Allowed, happens, LawfulFrom, Lawful, stage_from, stage}
use Rattle.dependence.specs.meaning.Runs.{dependence_of}

-- the present attempt of a position
abbrev pub present : Stage → ℕ → ℕ
present at p = attempt_of at.progress.made p

-- a fault names this attempt of the position
abbrev pub NamesAttempt : List Fault → (position attempt : ℕ) → Type 0
NamesAttempt faults p attempt = (fault : Fault) × Contains faults fault × (fault.pos ≡ p) × (fault.attempt ≡ attempt)

-- no delay is longer than the longest
abbrev pub AreShort : List Fault → Type 0
AreShort faults = All (λ (fault : Fault). fault.delay ≤ LONGEST_DELAY) faults

-- faults that are in range are so
abbrev pub ShortLaw : Type 0
ShortLaw = (faults : List Fault) → All IsInRange faults → AreShort faults

-- what a restart redoes lies below the front, and so does with each position every later one that is in conflict with it
pub record RedoesConflicts (dependence : Dependence) : Type 0 where
  pub below : (struck front p : ℕ) → Contains (dependence.redo struck front) p → p < front
  pub closed : (struck front p q : ℕ) → Contains (dependence.redo struck front) p → p < q → q < front → dependence.clash p q ≡ true
      → Contains (dependence.redo struck front) q

-- a restart redoes nothing before the position that is struck
abbrev pub RedoesLater : Dependence → Type 0
RedoesLater dependence = (struck front p : ℕ) → Contains (dependence.redo struck front) p → struck ≤ p

-- what holds between two events
pub record StageStands (dependence : Dependence) (faults : List Fault) (at : Stage) : Type 0 where
  pub front_low : at.progress.front ≤ dependence.count
  pub retired_low : at.retired ≤ at.progress.front
  -- what is posted was issued, and no attempt is posted before it is the present one
  pub posted_low : (p attempt : ℕ) → Contains at.posted (p, attempt) → (p < at.progress.front) × (attempt ≤ present at p)
  pub taken_posted : (p attempt : ℕ) → Contains at.taken (p, attempt) → Contains at.posted (p, attempt)
  -- a position whose present attempt was posted is applied exactly where that was taken, and one that has not retired only then
  pub applied_posted : (p : ℕ) → at.retired ≤ p → at.applied p ≡ true → Contains at.posted (p, present at p)
  pub applied_taken : (p : ℕ) → at.applied p ≡ true → Contains at.posted (p, present at p) → Contains at.taken (p, present at p)
  pub taken_applied : (p : ℕ) → Contains at.taken (p, present at p) → at.applied p ≡ true
  -- where the present attempt is posted, each earlier position in conflict is applied
  pub ready : (p q : ℕ) → Contains at.posted (p, present at p) → q < p → dependence.clash q p ≡ true → at.applied q ≡ true
  -- what has retired is applied, and no fault names its attempt
  pub retired_applied : (p : ℕ) → p < at.retired → at.applied p ≡ true
  pub retired_clean : (p : ℕ) → p < at.retired → ¬ NamesAttempt faults p (present at p)

-- the restart that may come next redoes nothing that has retired
abbrev pub KeepsRetired : Dependence → List Fault → Stage → Type 0
KeepsRetired dependence faults at =
    (struck p : ℕ) → struck_next dependence faults at.progress ≡ Some struck → p < at.retired
    → ¬ Contains (dependence.redo struck at.progress.front) p

-- what restarts redo, and delays, are such that what has retired stays clean
pub record KeepsClean (dependence : Dependence) (faults : List Fault) : Type 0 where
  pub struck : RedoesStruck dependence
  pub conflicts : RedoesConflicts dependence
  pub short : AreShort faults
  pub retired : (at : Stage) → StageStands dependence faults at → KeepsRetired dependence faults at

-- nothing was posted, taken, applied or redone of a position that was not issued
pub record NamesIssued (at : Stage) : Type 0 where
  pub posted : (p attempt : ℕ) → Contains at.posted (p, attempt) → p < at.progress.front
  pub taken : (p attempt : ℕ) → Contains at.taken (p, attempt) → p < at.progress.front
  pub applied : (p : ℕ) → at.applied p ≡ true → p < at.progress.front
  pub attempt : (p : ℕ) → at.progress.front ≤ p → present at p ≡ 0
  pub begun : (p : ℕ) → at.progress.front ≤ p → begun_of at.progress.made p ≡ p + 1

-- it stands before the first event
abbrev pub InitialLaw : Type 0
InitialLaw = (dependence : Dependence) (faults : List Fault) → StageStands dependence faults initial_stage × NamesIssued initial_stage

-- an event that is allowed keeps what stands, where a restart redoes nothing that has retired
abbrev pub EventLaw : Type 0
EventLaw =
    (dependence : Dependence) (faults : List Fault) (at : Stage) (event : Event) → RedoesConflicts dependence → AreShort faults
    → KeepsRetired dependence faults at → StageStands dependence faults at → Allowed dependence faults at event
    → StageStands dependence faults (happens dependence faults at event)

-- so do all events of a lawful journal that goes on from any stage
abbrev pub StandsLaw : Type 0
StandsLaw =
    (dependence : Dependence) (faults : List Fault) (at : Stage) (events : List Event) → RedoesConflicts dependence → AreShort faults
    → ((other : Stage) → StageStands dependence faults other → KeepsRetired dependence faults other)
    → StageStands dependence faults at → LawfulFrom dependence faults at events
    → StageStands dependence faults (stage_from dependence faults at events)

-- what has retired is redone by no restart that begins at the position that is struck
abbrev pub RetiredLaw : Type 0
RetiredLaw =
    (dependence : Dependence) (faults : List Fault) (at : Stage) → RedoesLater dependence → StageStands dependence faults at
    → KeepsRetired dependence faults at

-- where all that was issued has retired, no fault is live
abbrev pub NoneLiveLaw : Type 0
NoneLiveLaw =
    (dependence : Dependence) (faults : List Fault) (at : Stage) → StageStands dependence faults at → at.retired ≡ at.progress.front
    → NoneLive faults at.progress

-- so nothing is struck where an issue is allowed, that of a settle too
abbrev pub PassesLaw : Type 0
PassesLaw =
    (dependence : Dependence) (faults : List Fault) (at : Stage) (p : ℕ) → StageStands dependence faults at
    → Allowed dependence faults at (event.Issue p)
    → struck_next dependence faults at.progress ≡ None

-- a run keeps clean what has retired
abbrev pub RunCleanLaw : Type 0
RunCleanLaw = (run : List Subthread) (faults : List Fault) → AreShort faults → KeepsClean (dependence_of run) faults

-- it stands after each lawful journal of a run
abbrev pub RunStandsLaw : Type 0
RunStandsLaw =
    (run : List Subthread) (faults : List Fault) (events : List Event) → AreShort faults → Lawful (dependence_of run) faults events
    → StageStands (dependence_of run) faults (stage (dependence_of run) faults events)

-- a lawful journal goes on naming issued positions alone
abbrev pub IssuedLaw : Type 0
IssuedLaw =
    (dependence : Dependence) (faults : List Fault) (at : Stage) (events : List Event) → RedoesConflicts dependence → NamesIssued at
    → LawfulFrom dependence faults at events → NamesIssued (stage_from dependence faults at events)

-- a restart of a run redoes the position that is struck, and with each position every later one in conflict, none of
-- them before the one that is struck
abbrev pub RunRedoesLaw : Type 0
RunRedoesLaw = (run : List Subthread) → RedoesConflicts (dependence_of run) × RedoesLater (dependence_of run)
