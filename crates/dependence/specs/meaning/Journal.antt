-- Which lists of events are lawful: subthreads begin in order, run out of order and retire in order (Smith and Pleszkun's reorder buffer).
use Rattle.std.specs.Prelude.{◌≡◌, ◌≢◌, ◌⊎◌, ℕ, ◌+◌, ◌≤◌, ◌<◌, Bool, true, false, cond, nat_eq, ◌&&◌, ◌||◌, ⊤, List, [], ◌∷◌, ◌++◌, length, Contains, Option, Some, None}
use Rattle.gp_base.specs.declared.limits.TheConstants.{LONGEST_DELAY}
use Rattle.gp_base.specs.declared.fault.Fault.{Fault}
use Rattle.gp_base.specs.declared.journal.Event.{Event}
use Rattle.gp_base.specs.declared.journal.Event.TheVariants as event
use Rattle.dependence.specs.meaning.Dependents.{is_member}
use Rattle.dependence.specs.meaning.Restarts.{Dependence, Progress, drains, attempt_of, begun_of, NoneDue, NoneLive, struck_next, restart_of, IsFinal}

-- what the events so far leave
pub record Stage : Type 0 where
  -- the front, and the restarts made
  pub progress : Progress
  -- the pairs of position and attempt that were posted, and those that were taken
  pub posted : List (ℕ × ℕ)
  pub taken : List (ℕ × ℕ)
  -- whether a position's present attempt is applied
  pub applied : ℕ → Bool
  -- how many positions have retired
  pub retired : ℕ

-- no event has happened
abbrev pub initial_stage : Stage
initial_stage = record { progress = record { front = 0; made = [] }; posted = []; taken = []; applied = λ p. false; retired = 0 }

-- the front drains and no fault is live
abbrev pub Drained : Dependence → List Fault → Progress → Type 0
Drained dependence faults at = (drains dependence at.front ≡ true) × NoneLive faults at

-- some attempt of the position was taken
abbrev pub WasTaken : Stage → ℕ → Type 0
WasTaken at p = (attempt : ℕ) × Contains at.taken (p, attempt)

-- it is its thread's first subthread, or the one before was taken
abbrev pub MayFollow : Stage → Option ℕ → Type 0
MayFollow at None = ⊤
MayFollow at (Some earlier) = WasTaken at earlier

-- p may be issued
pub record MayIssue (dependence : Dependence) (faults : List Fault) (at : Stage) (p : ℕ) : Type 0 where
  pub next : p ≡ at.progress.front
  pub left : p < dependence.count
  pub none_due : NoneDue faults at.progress
  pub follows : MayFollow at (dependence.before p)
  -- a settle only where all before it have retired
  pub settled : dependence.settles p ≡ true → at.retired ≡ p

-- an attempt of p may be posted
pub record MayPost (dependence : Dependence) (at : Stage) (p attempt : ℕ) : Type 0 where
  pub issued : p < at.progress.front
  pub unretired : at.retired ≤ p
  pub present : attempt ≡ attempt_of at.progress.made p
  pub unposted : ¬ Contains at.posted (p, attempt)
  pub ready : (earlier : ℕ) → earlier < p → dependence.clash earlier p ≡ true → at.applied earlier ≡ true

-- the result of an attempt of p may be taken; it is applied exactly where the attempt is the present one
pub record MayTake (at : Stage) (p attempt : ℕ) (applies : Bool) : Type 0 where
  pub posted : Contains at.posted (p, attempt)
  pub untaken : ¬ Contains at.taken (p, attempt)
  pub decided : applies ≡ nat_eq attempt (attempt_of at.progress.made p)

-- the restart of this number, from 0, may be made
pub record MayRestart (dependence : Dependence) (faults : List Fault) (at : Stage) (number : ℕ) : Type 0 where
  pub numbered : number ≡ length at.progress.made
  pub some_struck : struck_next dependence faults at.progress ≢ None

-- the position is applied, and no fault can strike it any more
pub record IsSafe (at : Stage) (p : ℕ) : Type 0 where
  pub applied : at.applied p ≡ true
  pub long : begun_of at.progress.made p + LONGEST_DELAY ≤ at.progress.front

-- the rest of its block, from p on, is safe
abbrev pub RestIsSafe : Dependence → Stage → ℕ → Type 0
RestIsSafe dependence at p = (q : ℕ) → p ≤ q → q < dependence.count → dependence.block q ≡ dependence.block p → IsSafe at q

-- p may retire: the rest of its block is safe, or no fault is left
pub record MayRetire (dependence : Dependence) (faults : List Fault) (at : Stage) (p : ℕ) : Type 0 where
  pub oldest : p ≡ at.retired
  pub issued : p < at.progress.front
  pub applied : at.applied p ≡ true
  pub none_due : NoneDue faults at.progress
  pub safe : RestIsSafe dependence at p ⊎ Drained dependence faults at.progress

-- the event may come next
abbrev pub Allowed : Dependence → List Fault → Stage → Event → Type 0
Allowed dependence faults at (event.Issue p) = MayIssue dependence faults at p
Allowed dependence faults at (event.Post p attempt) = MayPost dependence at p attempt
Allowed dependence faults at (event.Take p attempt applies) = MayTake at p attempt applies
Allowed dependence faults at (event.Restart number) = MayRestart dependence faults at number
Allowed dependence faults at (event.Retire p) = MayRetire dependence faults at p

-- the stage after a restart of the position that is struck
abbrev pub restarted : Dependence → Stage → Option ℕ → Stage
restarted dependence at None = at
restarted dependence at (Some p) =
    let restart = restart_of dependence at.progress p in
    record at {
      progress = record { front = at.progress.front; made = at.progress.made ++ restart ∷ [] };
      applied = λ q. cond (is_member q restart.redo) false (at.applied q);
    }

-- the stage after the event
abbrev pub happens : Dependence → List Fault → Stage → Event → Stage
happens dependence faults at (event.Issue p) = record at { progress = record { front = at.progress.front + 1; made = at.progress.made } }
happens dependence faults at (event.Post p attempt) = record at { posted = at.posted ++ (p, attempt) ∷ [] }
happens dependence faults at (event.Take p attempt applies) =
    record at { taken = at.taken ++ (p, attempt) ∷ []; applied = λ q. (applies && nat_eq q p) || at.applied q }
happens dependence faults at (event.Restart number) = restarted dependence at (struck_next dependence faults at.progress)
happens dependence faults at (event.Retire p) = record at { retired = p + 1 }

-- each event is allowed after those before it
abbrev pub LawfulFrom : Dependence → List Fault → Stage → List Event → Type 0
LawfulFrom dependence faults at [] = ⊤
LawfulFrom dependence faults at (event ∷ rest) =
    Allowed dependence faults at event × LawfulFrom dependence faults (happens dependence faults at event) rest

abbrev pub Lawful : Dependence → List Fault → List Event → Type 0
Lawful dependence faults events = LawfulFrom dependence faults initial_stage events

-- the stage after the events
abbrev pub stage_from : Dependence → List Fault → Stage → List Event → Stage
stage_from dependence faults at [] = at
stage_from dependence faults at (event ∷ rest) = stage_from dependence faults (happens dependence faults at event) rest

abbrev pub stage : Dependence → List Fault → List Event → Stage
stage dependence faults events = stage_from dependence faults initial_stage events

-- all was issued, no fault is left to take, and all has retired
pub record Complete (dependence : Dependence) (faults : List Fault) (events : List Event) : Type 0 where
  pub lawful : Lawful dependence faults events
  pub final : IsFinal dependence faults (stage dependence faults events).progress
  pub retired : (stage dependence faults events).retired ≡ dependence.count
