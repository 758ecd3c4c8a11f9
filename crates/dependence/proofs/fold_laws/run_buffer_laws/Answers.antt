use Rattle.dependence.proofs.RunBuffers.{event-stands, out-finds, after-events, retired-lines, drained-state, final-state}
use Rattle.dependence.proofs.fold_laws.run_buffer_laws.Goals as goal

pub returns : goal.returns
returns c = record {
  event = λ run faults start at e buffer cells stands holds. event-stands run faults start cells at buffer stands holds e;
  journal = λ run faults start events cells short lawful. (after-events run faults start cells short events lawful).1;
  out = λ run faults start at e buffer p attempt cells stands holds.
      out-finds run faults start cells at buffer stands holds e p attempt;
  lines = λ program inputs limits faults at buffer p s short. retired-lines program inputs limits faults short at buffer p s;
  drained = drained-state;
  state = λ program inputs limits faults events short. final-state program inputs limits faults short events;
}
