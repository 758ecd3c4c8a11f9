-- The restarts that a list of faults makes of a run.
use Rattle.std.specs.Prelude.{◌≡◌, ℕ, zero, suc, ◌+◌, min, Bool, ◌&&◌, ◌||◌, cond, nat_eq, nat_lt, nat_le, List, [], ◌∷◌, ◌++◌, length, count_by, Option, Some, None}
use Rattle.std.specs.Option.{option_or, option_map_or}
use Rattle.gp_base.specs.declared.fault.Fault.{Fault}
use Rattle.gp_base.specs.declared.journal.Restart.{Restart}
use Rattle.dependence.specs.meaning.Dependents.{is_member}

-- what is read of a run
pub record Dependence : Type 0 where
  -- how many subthreads it has
  pub count : ℕ
  -- whether a later position waits for a position, as one in conflict with it does
  pub clash : (position later : ℕ) → Bool
  -- what is redone with a position that is struck: its dependents below the front
  pub redo : (struck front : ℕ) → List ℕ
  -- the position of the same thread's subthread before
  pub before : (position : ℕ) → Option ℕ
  -- whether a position begins with a settle
  pub settles : (position : ℕ) → Bool
  -- the block of a position: what is of one block retires once no fault can strike any of it
  pub block : (position : ℕ) → ℕ

-- whether the front drains: the run is at its end, or a settle comes next, so that a fault is taken whatever its delay
abbrev pub drains : Dependence → ℕ → Bool
drains dependence front = nat_eq front dependence.count || dependence.settles front

-- whether a restart redoes the position
abbrev pub redoes : ℕ → Restart → Bool
redoes p restart = is_member p restart.redo

-- the attempt of p after these restarts: how many of them redo it
abbrev pub attempt_of : List Restart → ℕ → ℕ
attempt_of made p = count_by (redoes p) made

-- the front of the last of these restarts that redoes p, or else the number given
abbrev pub last_front : ℕ → ℕ → List Restart → ℕ
last_front p begun [] = begun
last_front p begun (restart ∷ later) = last_front p (cond (redoes p restart) restart.front begun) later

-- where p's attempt began: p + 1, or the front of the last restart that redoes p
abbrev pub begun_of : List Restart → ℕ → ℕ
begun_of made p = last_front p (p + 1) made

-- how far the definition has come: the front, and the restarts made so far
pub record Progress : Type 0 where
  pub front : ℕ
  pub made : List Restart

-- whether the fault names the present attempt of its position, which is below the front
abbrev pub is_live : Progress → Fault → Bool
is_live at fault = nat_lt fault.pos at.front && nat_eq fault.attempt (attempt_of at.made fault.pos)

-- whether the fault is due by delay
abbrev pub is_due : Progress → Fault → Bool
is_due at fault = is_live at fault && nat_le (begun_of at.made fault.pos + fault.delay) at.front

-- the least position that a passing fault strikes
abbrev pub least_struck : (Fault → Bool) → List Fault → Option ℕ
least_struck test [] = None
least_struck test (fault ∷ rest) =
    cond (test fault) (Some (option_map_or (min fault.pos) (least_struck test rest) fault.pos)) (least_struck test rest)

-- no fault is due by delay
abbrev pub NoneDue : List Fault → Progress → Type 0
NoneDue faults at = least_struck (is_due at) faults ≡ None

-- no fault names a present attempt
abbrev pub NoneLive : List Fault → Progress → Type 0
NoneLive faults at = least_struck (is_live at) faults ≡ None

-- the position whose fault is taken next: the least one that is due by delay, or else, where the front drains, the least one that is live
abbrev pub struck_next : Dependence → List Fault → Progress → Option ℕ
struck_next dependence faults at =
    option_or (least_struck (is_due at) faults) (cond (drains dependence at.front) (least_struck (is_live at) faults) None)

-- the restart that taking a fault on p makes
abbrev pub restart_of : Dependence → Progress → ℕ → Restart
restart_of dependence at p = record { front = at.front; struck = p; attempt = attempt_of at.made p; redo = dependence.redo p at.front }

-- the progress after a restart of the position, where there is one, and else at the next front
abbrev pub advance_by : Dependence → Progress → Option ℕ → Progress
advance_by dependence at (Some p) = record { front = at.front; made = at.made ++ restart_of dependence at p ∷ [] }
advance_by dependence at None = record { front = min (at.front + 1) dependence.count; made = at.made }

-- the next restart at this front, or else the next front, up to the end of the run
abbrev pub advance : Dependence → List Fault → Progress → Progress
advance dependence faults at = advance_by dependence at (struck_next dependence faults at)

-- the progress after this number of steps
abbrev pub progress : Dependence → List Fault → ℕ → Progress
progress dependence faults zero = record { front = 0; made = [] }
progress dependence faults (suc steps) = advance dependence faults (progress dependence faults steps)

-- all fronts are passed and no fault is left to take
pub record IsFinal (dependence : Dependence) (faults : List Fault) (at : Progress) : Type 0 where
  pub passed : at.front ≡ dependence.count
  pub none_left : struck_next dependence faults at ≡ None

-- all restarts of a run: each fault is taken at most once, so this many steps are enough
abbrev pub restarts : Dependence → List Fault → List Restart
restarts dependence faults = (progress dependence faults (dependence.count + length faults)).made
