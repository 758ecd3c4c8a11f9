use Rattle.ended_seats.proofs.Idle.{idle_nth, idle_unpassed, idle_released, idle_after}
use Rattle.ended_seats.proofs.laws.keep_laws.Goals as goal

pub returns : goal.returns
returns c = record {
  changed = idle_nth;
  unpassed = λ from to seats idle t l m. idle_unpassed seats t (idle t l m);
  released = λ from to seats b idle t l m. idle_released b seats t (idle t l m);
  issued = λ from to op seats idle t l m. idle_after op seats t (idle t l m);
}
