-- The rollbacks that faults make, and when each settle is a cut.
use Rattle.std.specs.Prelude.{◌≡◌, ℕ, Bool, true, List}
use Rattle.gp_base.specs.declared.fault.Fault.{Fault}
use Rattle.gp_base.specs.declared.journal.Restart.{Restart}
use Rattle.task_ast.specs.meaning.Plain.{Subthread}
use Rattle.dependence.specs.meaning.Restarts.{Dependence, restarts}
use Rattle.rollback.specs.meaning.Cuts.{cuts_of, rolling, rolling_of}

-- each settle is a cut
abbrev pub SettlesCut : (cuts : ℕ → Bool) → Dependence → Type 0
SettlesCut cuts dependence = (p : ℕ) → dependence.settles p ≡ true → cuts p ≡ true

-- the rollbacks that a list of faults makes
abbrev pub rollbacks : (cuts : ℕ → Bool) → Dependence → List Fault → List Restart
rollbacks cuts dependence faults = restarts (rolling cuts dependence) faults

-- its rollbacks to these
abbrev pub rollbacks_of : (every : ℕ) → List Subthread → List Fault → List Restart
rollbacks_of every run faults = restarts (rolling_of (cuts_of every run) run) faults
