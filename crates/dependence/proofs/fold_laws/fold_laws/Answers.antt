use Rattle.dependence.specs.Conflict.{InConflict}
use Rattle.dependence.specs.Touching.{MayWrite, MayTouch}
use Rattle.dependence.proofs.Folds.{insertion, removal}
use Rattle.dependence.proofs.Keeping.{kept-feet}
use Rattle.dependence.proofs.fold_laws.fold_laws.Goals as goal

pub returns : goal.returns
returns c = record {
  insertion = λ location feet members opening set p front keep.
      insertion (λ q. MayWrite location (feet q)) (λ q. MayTouch location (feet q)) (InConflict feet) members
      (kept-feet location feet members keep) opening set p front;
  removal = λ location feet members opening set part front keep cells.
      removal (λ q. MayWrite location (feet q)) (λ q. MayTouch location (feet q)) (InConflict feet) members
      (kept-feet location feet members keep) opening cells set part front;
}
