-- What a run that rolls back reads off its stages: where its cuts lie, when the rest of a block is safe, and what a rollback leaves.
use Rattle.std.specs.Prelude.{◌≡◌, ◌↔◌, ℕ, ◌+◌, ◌-◌, ◌%◌, ◌≤◌, ◌<◌, Bool, true, false, List, Contains, Some}
use Rattle.gp_base.specs.declared.limits.TheConstants.{LONGEST_DELAY}
use Rattle.gp_base.specs.declared.fault.Fault.{Fault}
use Rattle.gp_base.specs.declared.journal.Event.{Event}
use Rattle.gp_base.specs.declared.journal.Event.TheVariants as event
use Rattle.dependence.specs.meaning.Restarts.{Dependence, begun_of, struck_next}
use Rattle.dependence.specs.meaning.Journal.{Stage, initial_stage, IsSafe, RestIsSafe, Allowed, Lawful, happens, stage}
use Rattle.dependence.specs.Standing.{present, NamesIssued}
use Rattle.dependence.specs.RunBuffer.{IsOut}
use Rattle.rollback.specs.meaning.Cuts.{is_cut, cut_at, rolling}
use Rattle.rollback.specs.Standing.{BlocksStand}

-- what holds between two events of where attempts began and of settles
pub record DrivingStands (dependence : Dependence) (at : Stage) : Type 0 where
  pub names_issued : NamesIssued at
  -- of two positions that were issued the later one did not begin earlier, and each began past itself and not past the front
  pub begun_rises : (p q : ℕ) → p ≤ q → q < at.progress.front → begun_of at.progress.made p ≤ begun_of at.progress.made q
  pub begun_above : (p : ℕ) → p < at.progress.front → p < begun_of at.progress.made p
  pub begun_low : (p : ℕ) → p < at.progress.front → begun_of at.progress.made p ≤ at.progress.front
  -- all before a settle that was issued has retired
  pub settled : (p : ℕ) → dependence.settles p ≡ true → p < at.progress.front → p ≤ at.retired

-- the greatest multiple that is not above the position
abbrev pub multiple_at : (every p : ℕ) → ℕ
multiple_at every p = p - p % every

-- what a rollback to a cut leaves of the positions that were issued
pub record RollsBack (at later : Stage) (cut : ℕ) : Type 0 where
  -- from the cut on the present attempt is a new one: it was not posted, and is not applied
  pub raised : (q : ℕ) → cut ≤ q → q < at.progress.front → present later q ≡ present at q + 1
  pub unposted : (q : ℕ) → cut ≤ q → q < at.progress.front → ¬ Contains later.posted (q, present later q)
  pub unapplied : (q : ℕ) → cut ≤ q → q < at.progress.front → later.applied q ≡ false
  -- before it all stays
  pub keeps_attempt : (q : ℕ) → q < cut → present later q ≡ present at q
  pub keeps_applied : (q : ℕ) → q < cut → later.applied q ≡ at.applied q

-- it holds before the first event
abbrev pub InitialDrivingLaw : Type 0
InitialDrivingLaw = (dependence : Dependence) → DrivingStands dependence initial_stage

-- an event that is allowed keeps it
abbrev pub DrivingEventLaw : Type 0
DrivingEventLaw =
    (cuts : ℕ → Bool) (dependence : Dependence) (faults : List Fault) (at : Stage) (e : Event) → DrivingStands dependence at
    → Allowed (rolling cuts dependence) faults at e → DrivingStands dependence (happens (rolling cuts dependence) faults at e)

-- and so it holds after each journal that is lawful by blocks
abbrev pub DrivingJournalLaw : Type 0
DrivingJournalLaw =
    (cuts : ℕ → Bool) (dependence : Dependence) (faults : List Fault) (events : List Event)
    → Lawful (rolling cuts dependence) faults events → DrivingStands dependence (stage (rolling cuts dependence) faults events)

-- the cut of a position that was issued and has not retired is the greatest multiple that is not above it, where that has not retired,
-- or else the oldest position, where that begins with a settle, or else one that has retired
abbrev pub CutLaw : Type 0
CutLaw =
    (every : ℕ) (dependence : Dependence) (at : Stage) (p : ℕ) → 1 ≤ every → DrivingStands dependence at → at.retired ≤ p
    → p < at.progress.front
    → let cut = cut_at (is_cut every dependence) p in
    (at.retired ≤ multiple_at every p → cut ≡ multiple_at every p)
    × (multiple_at every p < at.retired → dependence.settles at.retired ≡ true → cut ≡ at.retired)
    × (multiple_at every p < at.retired → dependence.settles at.retired ≡ false → cut < at.retired)

-- so all before its block is applied exactly where all before the multiple is
abbrev pub WholeLaw : Type 0
WholeLaw =
    (every : ℕ) (dependence : Dependence) (faults : List Fault) (at : Stage) (p : ℕ) → 1 ≤ every
    → BlocksStand (is_cut every dependence) dependence faults at → DrivingStands dependence at → p < at.progress.front
    → ((q : ℕ) → q < cut_at (is_cut every dependence) p → at.applied q ≡ true)
    ↔ ((q : ℕ) → q < multiple_at every p → at.applied q ≡ true)

-- no rollback goes back to before a position that has retired
abbrev pub StruckLaw : Type 0
StruckLaw =
    (cuts : ℕ → Bool) (dependence : Dependence) (faults : List Fault) (at : Stage) (struck : ℕ) → BlocksStand cuts dependence faults at
    → struck_next (rolling cuts dependence) faults at.progress ≡ Some struck → at.retired ≤ cut_at cuts struck

-- the rest of the block of a position is safe where all up to the next multiple is
abbrev pub RestLaw : Type 0
RestLaw =
    (every : ℕ) (dependence : Dependence) (at : Stage) (p : ℕ) → 1 ≤ every
    → ((q : ℕ) → p ≤ q → q < multiple_at every p + every → IsSafe at q)
    → (q : ℕ) → p ≤ q → cut_at (is_cut every dependence) q ≡ cut_at (is_cut every dependence) p → IsSafe at q

-- and only there, where the position was issued and has not retired: below the next multiple its block ends at no settle, since one that
-- was issued waited until all before it had retired, and not with the run, since the last attempts of a run began less long ago
abbrev pub RestOnlyLaw : Type 0
RestOnlyLaw =
    (every : ℕ) (dependence : Dependence) (at : Stage) (p : ℕ) → 1 ≤ every → DrivingStands dependence at
    → at.progress.front ≤ dependence.count → at.retired ≤ p → p < at.progress.front
    → RestIsSafe (rolling (is_cut every dependence) dependence) at p
    → (multiple_at every p + every ≤ at.progress.front) × ((q : ℕ) → p ≤ q → q < multiple_at every p + every → IsSafe at q)

-- positions that are applied are safe where the last of them began long ago
abbrev pub SafeLaw : Type 0
SafeLaw =
    (dependence : Dependence) (at : Stage) (p last : ℕ) → DrivingStands dependence at → last < at.progress.front
    → ((q : ℕ) → p ≤ q → q ≤ last → at.applied q ≡ true) → begun_of at.progress.made last + LONGEST_DELAY ≤ at.progress.front
    → (q : ℕ) → p ≤ q → q ≤ last → IsSafe at q

-- where no present attempt of a block is posted, of which none has retired, nothing from its cut on is applied, and nothing is out
-- where all before it is applied
abbrev pub UnbegunLaw : Type 0
UnbegunLaw =
    (cuts : ℕ → Bool) (dependence : Dependence) (faults : List Fault) (at : Stage) (p : ℕ) → BlocksStand cuts dependence faults at
    → at.retired ≤ cut_at cuts p → ((q : ℕ) → cut_at cuts q ≡ cut_at cuts p → ¬ Contains at.posted (q, present at q))
    → ((q : ℕ) → cut_at cuts p ≤ q → at.applied q ≡ false)
    × (((q : ℕ) → q < cut_at cuts p → at.applied q ≡ true) → (q attempt : ℕ) → ¬ IsOut at q attempt)

-- what is out after a rollback was out before it
abbrev pub StillOutLaw : Type 0
StillOutLaw =
    (cuts : ℕ → Bool) (dependence : Dependence) (faults : List Fault) (at : Stage) (number p attempt : ℕ)
    → BlocksStand cuts dependence faults at → IsOut (happens (rolling cuts dependence) faults at (event.Restart number)) p attempt
    → IsOut at p attempt

-- a rollback leaves from the cut of the position that is struck on no present attempt posted, and before it all as it was
abbrev pub RolledLaw : Type 0
RolledLaw =
    (cuts : ℕ → Bool) (dependence : Dependence) (faults : List Fault) (at : Stage) (number struck : ℕ)
    → BlocksStand cuts dependence faults at → struck_next (rolling cuts dependence) faults at.progress ≡ Some struck
    → RollsBack at (happens (rolling cuts dependence) faults at (event.Restart number)) (cut_at cuts struck)
