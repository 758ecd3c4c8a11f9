use Rattle.rollback.proofs.States.{copy-is, copy-keeps, back-copy, back-same}
use Rattle.rollback.proofs.state_laws.copy_laws.Goals as goal

pub returns : goal.returns
returns c = record {
  copy = copy-is;
  keeps = copy-keeps;
  back = λ run faults start cuts at held struck.
      (back-copy run faults start cuts at held struck, back-same run faults start cuts at held struck);
}
