use Rattle.rollback.proofs.Backs.{dependents-roll, back-is, rolls-struck, rolls-conflicts}
use Rattle.rollback.proofs.laws.rollback_laws.Goals as goal

pub returns : goal.returns
returns c = record {
  dependents = dependents-roll;
  later = back-is;
  rolls = λ cuts dependence. (rolls-struck cuts dependence, rolls-conflicts cuts dependence);
}
