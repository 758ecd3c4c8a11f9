use Rattle.dependence.proofs.Counts.{retire-in-order, once, runs-again, few-attempts, complete-has_all}
use Rattle.dependence.proofs.RetiredPositions.{ran}
use Rattle.dependence.proofs.laws.count_laws.Goals as goal

pub returns : goal.returns
returns c = record {
  complete = λ dependence faults events clean. complete-has_all dependence faults clean events;
  retirements = retire-in-order;
  once = once;
  ran = λ dependence faults events p clean. ran dependence faults clean events p;
  runs_again = runs-again;
  attempts = λ dependence faults events held. few-attempts dependence faults held events;
}
