use Rattle.dependence.proofs.RestartEnds.{attempt-push, begun-push, final-reached, few-restarts}
use Rattle.dependence.proofs.laws.restarts_laws.Goals as goal

pub returns : goal.returns
returns c = record {
  raise = λ made restart p. (attempt-push made restart p, begun-push made restart p);
  ends = λ dependence faults held. final-reached dependence held faults;
  few = λ dependence faults held. few-restarts dependence held faults;
}
