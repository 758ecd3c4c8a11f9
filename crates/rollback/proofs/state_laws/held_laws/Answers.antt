use Rattle.rollback.proofs.States.{initial-held, happens-held, journal-held, held-finds}
use Rattle.rollback.proofs.state_laws.held_laws.Goals as goal

pub returns : goal.returns
returns c = record {
  initial = initial-held;
  event = λ run faults start cuts at e held cells. happens-held run faults start cuts cells at e held;
  journal = λ run faults start cuts events cells settled short. journal-held run faults start cuts cells settled short events;
  out = λ run faults start cuts at e held p attempt cells. held-finds run faults start cuts cells at e held p attempt;
}
