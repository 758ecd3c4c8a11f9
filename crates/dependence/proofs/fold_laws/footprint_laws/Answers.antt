use Rattle.dependence.proofs.Keeping.{laid_law, location-is, keeps_law, run-keeps}
use Rattle.dependence.proofs.LockClashes.{locks-clash}
use Rattle.dependence.proofs.fold_laws.footprint_laws.Goals as goal

pub returns : goal.returns
returns c = record { laid = laid_law; location = location-is; keeps = keeps_law; run = run-keeps; locks = locks-clash }
