-- Laws of rollbacks, and of journals by blocks.
use Rattle.std.specs.Prelude.{◌≡◌, ◌≢◌, ◌↔◌, ℕ, ◌≤◌, ◌<◌, Bool, true, false, List, ◌++◌, length, slice_get, Contains, None}
use Rattle.std.specs.Option.{IsSomeAnd}
use Rattle.gp_base.specs.declared.fault.Fault.{Fault}
use Rattle.gp_base.specs.declared.journal.Event.{Event}
use Rattle.gp_base.specs.declared.journal.Event.TheVariants as event
use Rattle.gp_base.specs.declared.journal.Restart.{Restart}
use Rattle.dependence.specs.meaning.Dependents.{dependents}
use Rattle.dependence.specs.meaning.Restarts.{Dependence, attempt_of, struck_next}
use Rattle.dependence.specs.Restarts.{RedoesStruck}
use Rattle.dependence.specs.meaning.Journal.{Stage, initial_stage, Allowed, happens, Lawful, Complete, stage}
use Rattle.dependence.specs.Counts.{retirements, posts, takes, HasAll}
use Rattle.dependence.specs.Standing.{present, AreShort, KeepsRetired, RedoesConflicts}
use Rattle.dependence.specs.RunBuffer.{IsOut}
use Rattle.rollback.specs.meaning.Cuts.{is_cut, cut_at, back, rolling}
use Rattle.rollback.specs.Cuts.{SettlesCut, rollbacks}
use Rattle.rollback.specs.Standing.{BlocksStand}

-- of the multiples of a number and the settles of a run each settle is one
abbrev pub SettlesLaw : Type 0
SettlesLaw = (every : ℕ) (dependence : Dependence) → SettlesCut (is_cut every dependence) dependence

-- a later position has no earlier cut
abbrev pub RisesLaw : Type 0
RisesLaw = (cuts : ℕ → Bool) (p q : ℕ) → p ≤ q → cut_at cuts p ≤ cut_at cuts q

-- the cut of a cut is that cut
abbrev pub AgainLaw : Type 0
AgainLaw = (cuts : ℕ → Bool) (p : ℕ) → cut_at cuts (cut_at cuts p) ≡ cut_at cuts p

-- the dependents of a position are rolled back with it
abbrev pub DependentsLaw : Type 0
DependentsLaw =
    (cuts : ℕ → Bool) (clash : ℕ → ℕ → Bool) (struck front q : ℕ) → Contains (dependents clash struck front) q
    → Contains (back cuts struck front) q

-- what is rolled back is what lies below the front and not before the cut
abbrev pub LaterLaw : Type 0
LaterLaw = (cuts : ℕ → Bool) (struck front q : ℕ) → Contains (back cuts struck front) q ↔ ((cut_at cuts struck ≤ q) × (q < front))

-- a rollback redoes the position that is struck, and with each position every later one
abbrev pub RollsLaw : Type 0
RollsLaw = (cuts : ℕ → Bool) (dependence : Dependence) → RedoesStruck (rolling cuts dependence) × RedoesConflicts (rolling cuts dependence)

-- it stands before the first event
abbrev pub InitialLaw : Type 0
InitialLaw = (cuts : ℕ → Bool) (dependence : Dependence) (faults : List Fault) → BlocksStand cuts dependence faults initial_stage

-- where it stands, no rollback redoes what has retired
abbrev pub KeepsLaw : Type 0
KeepsLaw =
    (cuts : ℕ → Bool) (dependence : Dependence) (faults : List Fault) (at : Stage) → BlocksStand cuts dependence faults at
    → KeepsRetired (rolling cuts dependence) faults at

-- an event that is allowed keeps it
abbrev pub EventLaw : Type 0
EventLaw =
    (cuts : ℕ → Bool) (dependence : Dependence) (faults : List Fault) (at : Stage) (event : Event) → SettlesCut cuts dependence
    → AreShort faults → BlocksStand cuts dependence faults at → Allowed (rolling cuts dependence) faults at event
    → BlocksStand cuts dependence faults (happens (rolling cuts dependence) faults at event)

-- it stands after each journal that is lawful by blocks
abbrev pub StandsLaw : Type 0
StandsLaw =
    (cuts : ℕ → Bool) (dependence : Dependence) (faults : List Fault) (events : List Event) → SettlesCut cuts dependence → AreShort faults
    → Lawful (rolling cuts dependence) faults events → BlocksStand cuts dependence faults (stage (rolling cuts dependence) faults events)

-- attempts that are out are of one block
abbrev pub OneBlockLaw : Type 0
OneBlockLaw =
    (cuts : ℕ → Bool) (dependence : Dependence) (faults : List Fault) (at : Stage) (p attempt q other : ℕ)
    → BlocksStand cuts dependence faults at → IsOut at p attempt → IsOut at q other → cut_at cuts p ≡ cut_at cuts q

-- where a position is not applied, none of a later block is
abbrev pub WaitsLaw : Type 0
WaitsLaw =
    (cuts : ℕ → Bool) (dependence : Dependence) (faults : List Fault) (at : Stage) (p q : ℕ) → BlocksStand cuts dependence faults at
    → at.applied p ≡ false → p < cut_at cuts q → at.applied q ≡ false

-- the first position that is not applied may be posted, where it is not out
abbrev pub PostsLaw : Type 0
PostsLaw =
    (cuts : ℕ → Bool) (dependence : Dependence) (faults : List Fault) (at : Stage) (p : ℕ) → BlocksStand cuts dependence faults at
    → p < at.progress.front → at.applied p ≡ false → ((q : ℕ) → q < p → at.applied q ≡ true) → ¬ IsOut at p (present at p)
    → Allowed (rolling cuts dependence) faults at (event.Post p (present at p))

-- the restarts of such a journal are the first of all rollbacks
abbrev pub FirstLaw : Type 0
FirstLaw =
    (cuts : ℕ → Bool) (dependence : Dependence) (faults : List Fault) (events : List Event) → SettlesCut cuts dependence → AreShort faults
    → Lawful (rolling cuts dependence) faults events
    → (rest : List Restart) × (rollbacks cuts dependence faults ≡ (stage (rolling cuts dependence) faults events).progress.made ++ rest)

-- one may come next exactly where the next of all rollbacks has the present front
abbrev pub NextLaw : Type 0
NextLaw =
    (cuts : ℕ → Bool) (dependence : Dependence) (faults : List Fault) (events : List Event) → SettlesCut cuts dependence → AreShort faults
    → Lawful (rolling cuts dependence) faults events
    → let at = (stage (rolling cuts dependence) faults events).progress in
    (struck_next (rolling cuts dependence) faults at ≢ None)
    ↔ IsSomeAnd (slice_get (rollbacks cuts dependence faults) (length at.made)) (λ restart. restart.front ≡ at.front)

-- a complete journal has all rollbacks
abbrev pub AllLaw : Type 0
AllLaw =
    (cuts : ℕ → Bool) (dependence : Dependence) (faults : List Fault) (events : List Event) → SettlesCut cuts dependence → AreShort faults
    → Complete (rolling cuts dependence) faults events
    → (stage (rolling cuts dependence) faults events).progress.made ≡ rollbacks cuts dependence faults

-- what has retired was posted and taken at its present attempt
abbrev pub RanLaw : Type 0
RanLaw =
    (cuts : ℕ → Bool) (dependence : Dependence) (faults : List Fault) (events : List Event) (p : ℕ) → SettlesCut cuts dependence
    → AreShort faults → Lawful (rolling cuts dependence) faults events → Contains (retirements events) p
    → let made = (stage (rolling cuts dependence) faults events).progress.made in
    Contains (posts events) (p, attempt_of made p) × Contains (takes events) (p, attempt_of made p)

-- a journal that is lawful by blocks is complete exactly where it has an issue and a retirement for each position and all rollbacks
abbrev pub CompleteLaw : Type 0
CompleteLaw =
    (cuts : ℕ → Bool) (dependence : Dependence) (faults : List Fault) (events : List Event) → SettlesCut cuts dependence → AreShort faults
    → Lawful (rolling cuts dependence) faults events
    → Complete (rolling cuts dependence) faults events ↔ HasAll (rolling cuts dependence) faults events
