-- What an audit keeps that goes by restarts and fronts alone.
use Rattle.std.specs.Prelude.{◌≡◌, ℕ, ◌+◌, ◌≤◌, List, length, Some, slice_get}
use Rattle.gp_base.specs.declared.journal.Restart.{Restart}
use Rattle.dependence.specs.meaning.Restarts.{Progress, attempt_of, begun_of, advance}
use Rattle.gp_audit.specs.declared.state.Seen.{Seen}
use Rattle.gp_audit.specs.Steps.{dependence_by}
use Rattle.gp_audit.specs.inner.Audited.{Audited}

-- the attempt of a position, and where it began, are those after these restarts
pub record IsAttempt (made : List Restart) (p : ℕ) (s : Seen) : Type 0 where
  pub attempt : s.attempt ≡ attempt_of made p
  pub begun : s.begun ≡ begun_of made p

-- what is kept has come as far
pub record Reaches (at : Progress) (a : Audited) : Type 0 where
  pub front : length a.seen ≡ at.front
  pub each : (p : ℕ) (s : Seen) → slice_get a.seen p ≡ Some s → IsAttempt at.made p s

-- how far that is
abbrev pub progress_in : Audited → List Restart → Progress
progress_in a made = record { front = length a.seen; made = made }

-- what is kept is that after these restarts, none of which redoes a position that was not issued
pub record Replays (a : Audited) (made : List Restart) : Type 0 where
  pub within : length a.seen ≤ length a.steps
  pub each : (p : ℕ) (s : Seen) → slice_get a.seen p ≡ Some s → IsAttempt made p s
  pub attempt : (p : ℕ) → length a.seen ≤ p → attempt_of made p ≡ 0
  pub begun : (p : ℕ) → length a.seen ≤ p → begun_of made p ≡ p + 1

-- it goes on by one restart, or by one front
pub record Advances (a : Audited) (made : List Restart) (a' : Audited) (made' : List Restart) : Type 0 where
  pub steps : a'.steps ≡ a.steps
  pub faults : a'.faults ≡ a.faults
  pub replays : Replays a' made'
  pub progress : progress_in a' made' ≡ advance (dependence_by a.steps) a.faults (progress_in a made)
