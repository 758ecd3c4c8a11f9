-- What the laws of restarts and journals ask of the steps of a run.
use Rattle.std.proofs.Common.{◌≡◌, ℕ, Bool, true, List}
use Rattle.gp_base.specs.declared.fault.Fault.{Fault}
use Rattle.one_thread.specs.declared.run.Step.{Step}
use Rattle.dependence.specs.meaning.Conflict.{clash_in}
use Rattle.dependence.specs.Dependents.{IsDependent, itself}
use Rattle.dependence.specs.Restarts.{RedoesStruck}
use Rattle.dependence.specs.Standing.{AreShort, RedoesConflicts, RedoesLater, KeepsClean}
use Rattle.dependence.proofs.DependentSets.{IsDependent-from, IsDependent-front, dependents-are}
use Rattle.dependence.proofs.Standing.{keeps-retired}
use Rattle.gp_audit.specs.Steps.{feet_in, dependence_by}

module _ (steps : List Step) where
  abbrev clash : ℕ → ℕ → Bool
  clash = clash_in (feet_in steps)

  abbrev Clash : ℕ → ℕ → Type 0
  Clash p q = clash p q ≡ true

  pub steps-struck : RedoesStruck (dependence_by steps)
  steps-struck struck front l = (dependents-are clash struck front struck).1 (itself l)

  pub steps-redo : RedoesConflicts (dependence_by steps)
  steps-redo =
      record {
        below = λ struck front p h. IsDependent-front Clash struck front ((dependents-are clash struck front p).0 h);
        closed =
            λ struck front p q h l m c. (dependents-are clash struck front q).1
            (IsDependent.later ((dependents-are clash struck front p).0 h) l m c);
      }

  pub steps-later : RedoesLater (dependence_by steps)
  steps-later struck front p h = IsDependent-from Clash struck front ((dependents-are clash struck front p).0 h)

  -- what has retired stays clean
  pub steps-clean : (faults : List Fault) → AreShort faults → KeepsClean (dependence_by steps) faults
  steps-clean faults short =
      record {
        struck = steps-struck;
        conflicts = steps-redo;
        short = short;
        retired = λ at. keeps-retired (dependence_by steps) faults at steps-later;
      }
