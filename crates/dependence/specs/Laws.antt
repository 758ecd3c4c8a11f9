-- Laws of the definitions.
use Rattle.std.specs.Prelude.{◌≡◌, ◌≢◌, ◌↔◌, ℕ, ◌+◌, ◌<◌, ◌≤◌, Bool, true, false, cond, List, [], ◌∷◌, ◌++◌, length, map, slice_get, Contains, EachIndex, None}
use Rattle.std.specs.Option.{IsSomeAnd}
use Rattle.std.specs.List.{slice_index_or}
use Rattle.std.specs.List.Sorted.{IsStrictlyIncreasing}
use Rattle.gp_base.specs.declared.footprint.Footprint.{Footprint}
use Rattle.gp_base.specs.declared.fault.Fault.{Fault}
use Rattle.gp_base.specs.declared.journal.Event.{Event}
use Rattle.gp_base.specs.declared.journal.Restart.{Restart}
use Rattle.task_ast.specs.meaning.Plain.{Subthread}
use Rattle.dependence.specs.meaning.Conflict.{conflicting, clash_in}
use Rattle.dependence.specs.Conflict.{Conflict}
use Rattle.dependence.specs.meaning.Dependents.{is_member, dependents}
use Rattle.dependence.specs.Dependents.{IsDependent, MarksDependents}
use Rattle.dependence.specs.meaning.Restarts.{Dependence, redoes, attempt_of, begun_of, struck_next, progress, IsFinal, restarts}
use Rattle.dependence.specs.Restarts.{RedoesStruck}
use Rattle.dependence.specs.meaning.Journal.{Allowed, happens, Lawful, Complete, stage}
use Rattle.dependence.specs.JournalTests.{is_lawful, is_complete}
use Rattle.dependence.specs.Standing.{KeepsClean}
use Rattle.dependence.specs.meaning.Runs.{dependence_of}

-- the test says when two footprints are in conflict
abbrev pub ConflictLaw : Type 0
ConflictLaw = (first second : Footprint) → (conflicting first second ≡ true) ↔ Conflict first second

-- conflict has no direction
abbrev pub SwapLaw : Type 0
SwapLaw = (first second : Footprint) → Conflict first second → Conflict second first

-- the list of dependents holds exactly the dependents
abbrev pub DependentsLaw : Type 0
DependentsLaw =
    (clash : ℕ → ℕ → Bool) (first front q : ℕ)
    → Contains (dependents clash first front) q ↔ IsDependent (λ earlier later. clash earlier later ≡ true) first front q

-- each set that holds the first, and with a member each later position in conflict with it, holds the dependents
abbrev pub LeastLaw : Type 0
LeastLaw =
    (clash : ℕ → ℕ → Bool) (first front : ℕ) (set : ℕ → Bool) → set first ≡ true
    → ((p q : ℕ) → set p ≡ true → p < q → q < front → clash p q ≡ true → set q ≡ true)
    → (q : ℕ) → IsDependent (λ earlier later. clash earlier later ≡ true) first front q → set q ≡ true

-- the dependents are listed in rising order
abbrev pub RisingLaw : Type 0
RisingLaw = (clash : ℕ → ℕ → Bool) (first front : ℕ) → IsStrictlyIncreasing (dependents clash first front)

-- below one more front the list has that front too, exactly where it is a dependent below a front past it
abbrev pub NextLaw : Type 0
NextLaw =
    (clash : ℕ → ℕ → Bool) (first front q : ℕ) → q < front
    → dependents clash first (q + 1)
    ≡ cond (is_member q (dependents clash first front)) (dependents clash first q ++ q ∷ []) (dependents clash first q)

-- the dependents among the positions from `base` on, counted from there, are those of the whole
abbrev pub ShiftLaw : Type 0
ShiftLaw =
    (clash : ℕ → ℕ → Bool) (base first front : ℕ)
    → dependents clash (base + first) (base + front) ≡ map (λ p. base + p) (dependents (λ p q. clash (base + p) (base + q)) first front)

-- exactly the members of the list are marked where exactly the dependents are
abbrev pub MarksLaw : Type 0
MarksLaw =
    (feet : List Footprint) (first : ℕ) (marks : List Bool) → MarksDependents feet first marks
    → EachIndex marks (λ q. slice_index_or marks q false ≡ is_member q (dependents (clash_in feet) first (length feet)))

-- what a run redoes with a position that is struck holds that position
abbrev pub RunLaw : Type 0
RunLaw = (run : List Subthread) → RedoesStruck (dependence_of run)

-- a beginning of a lawful list is lawful
abbrev pub FrontLaw : Type 0
FrontLaw =
    (dependence : Dependence) (faults : List Fault) (events rest : List Event) → Lawful dependence faults (events ++ rest)
    → Lawful dependence faults events

-- after as many steps as there are fronts and faults no fault is left to take
abbrev pub RestartsEndLaw : Type 0
RestartsEndLaw =
    (dependence : Dependence) (faults : List Fault) → RedoesStruck dependence
    → IsFinal dependence faults (progress dependence faults (dependence.count + length faults))

-- the restarts of a lawful list are the first of all restarts
abbrev pub RestartsFirstLaw : Type 0
RestartsFirstLaw =
    (dependence : Dependence) (faults : List Fault) (events : List Event) → KeepsClean dependence faults → Lawful dependence faults events
    → (rest : List Restart) × (restarts dependence faults ≡ (stage dependence faults events).progress.made ++ rest)

-- a complete list has all restarts
abbrev pub RestartsAllLaw : Type 0
RestartsAllLaw =
    (dependence : Dependence) (faults : List Fault) (events : List Event) → KeepsClean dependence faults → Complete dependence faults events
    → (stage dependence faults events).progress.made ≡ restarts dependence faults

-- one more restart raises the attempts of those that it redoes, and they begin at its front
abbrev pub RaiseLaw : Type 0
RaiseLaw =
    (made : List Restart) (restart : Restart) (p : ℕ)
    → (attempt_of (made ++ restart ∷ []) p ≡ attempt_of made p + cond (redoes p restart) 1 0)
    × (begun_of (made ++ restart ∷ []) p ≡ cond (redoes p restart) restart.front (begun_of made p))

-- a restart may come next in a lawful list exactly where the next of all restarts has the present front
abbrev pub RestartsNextLaw : Type 0
RestartsNextLaw =
    (dependence : Dependence) (faults : List Fault) (events : List Event) → KeepsClean dependence faults → Lawful dependence faults events
    → let at = (stage dependence faults events).progress in
    (struck_next dependence faults at ≢ None)
    ↔ IsSomeAnd (slice_get (restarts dependence faults) (length at.made)) (λ restart. restart.front ≡ at.front)

-- an event that is allowed goes on a lawful list
abbrev pub GrowLaw : Type 0
GrowLaw =
    (dependence : Dependence) (faults : List Fault) (events : List Event) (event : Event) → Lawful dependence faults events
    → Allowed dependence faults (stage dependence faults events) event → Lawful dependence faults (events ++ event ∷ [])

-- the stage after one more event
abbrev pub StageLaw : Type 0
StageLaw =
    (dependence : Dependence) (faults : List Fault) (events : List Event) (event : Event)
    → stage dependence faults (events ++ event ∷ []) ≡ happens dependence faults (stage dependence faults events) event

-- the tests say which lists are lawful and complete
abbrev pub LawfulTestLaw : Type 0
LawfulTestLaw =
    (dependence : Dependence) (faults : List Fault) (events : List Event)
    → (is_lawful dependence faults events ≡ true) ↔ Lawful dependence faults events

abbrev pub CompleteTestLaw : Type 0
CompleteTestLaw =
    (dependence : Dependence) (faults : List Fault) (events : List Event)
    → (is_complete dependence faults events ≡ true) ↔ Complete dependence faults events

-- there are no more restarts than faults
abbrev pub FewLaw : Type 0
FewLaw = (dependence : Dependence) (faults : List Fault) → RedoesStruck dependence → length (restarts dependence faults) ≤ length faults
