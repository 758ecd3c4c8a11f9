use Rattle.dependence.proofs.Measured.{leaves-less, bounded-length}
use Rattle.dependence.proofs.laws.measure_laws.Goals as goal

pub returns : goal.returns
returns c = record {
  less = λ dependence faults at event held. leaves-less dependence held faults at event;
  length = λ dependence faults events held. bounded-length dependence held faults events;
}
