-- What stands after the events of a journal that is lawful by blocks.
use Rattle.std.specs.Prelude.{ℕ, ◌<◌, Bool, List}
use Rattle.gp_base.specs.declared.fault.Fault.{Fault}
use Rattle.dependence.specs.meaning.Restarts.{Dependence}
use Rattle.dependence.specs.meaning.Journal.{Stage}
use Rattle.dependence.specs.Standing.{present, NamesAttempt, StageStands}
use Rattle.rollback.specs.meaning.Cuts.{cut_at, rolling}

-- what holds between two events
pub record BlocksStand (cuts : ℕ → Bool) (dependence : Dependence) (faults : List Fault) (at : Stage) : Type 0 where
  pub stands : StageStands (rolling cuts dependence) faults at
  -- a position of a block of which some has retired was issued, and no fault names its attempt
  pub issued : (p : ℕ) → p < dependence.count → cut_at cuts p < at.retired → p < at.progress.front
  pub clean : (p : ℕ) → p < dependence.count → cut_at cuts p < at.retired → ¬ NamesAttempt faults p (present at p)
