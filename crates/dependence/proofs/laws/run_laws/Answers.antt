use Rattle.dependence.specs.meaning.Conflict.{clash_in}
use Rattle.dependence.specs.Dependents.{itself}
use Rattle.dependence.specs.meaning.Runs.{feet_of}
use Rattle.dependence.proofs.DependentSets.{dependents-are}
use Rattle.dependence.proofs.Standing.{run-redoes, run-later, run-clean, run-stands}
use Rattle.dependence.proofs.laws.run_laws.Goals as goal

pub returns : goal.returns
returns c = record {
  struck = λ run struck front l. (dependents-are (clash_in (feet_of run)) struck front struck).1 (itself l);
  conflicts = λ run. (run-redoes run, run-later run);
  clean = run-clean;
  stands = run-stands;
}
