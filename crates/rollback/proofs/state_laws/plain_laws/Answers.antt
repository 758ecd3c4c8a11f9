use Rattle.rollback.proofs.States.{retired-held, drained-held, final-held}
use Rattle.rollback.proofs.state_laws.plain_laws.Goals as goal

pub returns : goal.returns
returns c = record {
  lines = λ program inputs limits faults cuts at held p s short. retired-held program inputs limits faults cuts short at held p s;
  drained = drained-held;
  state = λ program inputs limits faults cuts events settled short. final-held program inputs limits faults cuts short settled events;
}
