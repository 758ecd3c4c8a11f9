use Rattle.rollback.proofs.Journals.{rollbacks-first, rollbacks-next, rollbacks-all, complete-has_all}
use Rattle.dependence.proofs.RetiredPositions.{ran-where}
use Rattle.rollback.specs.meaning.Cuts.{rolling}
use Rattle.rollback.specs.Standing.{BlocksStand}
use Rattle.rollback.proofs.Standing.{initial-blocks, keeps-retired, happens-blocks}
use Rattle.rollback.proofs.laws.rollbacks_laws.Goals as goal

pub returns : goal.returns
returns c = record {
  first = λ cuts dependence faults events settled short. rollbacks-first cuts dependence faults settled short events;
  next = λ cuts dependence faults events settled short. rollbacks-next cuts dependence faults settled short events;
  all = λ cuts dependence faults events settled short. rollbacks-all cuts dependence faults settled short events;
  ran = λ cuts dependence faults events p settled short.
      ran-where (rolling cuts dependence) faults (BlocksStand cuts dependence faults) (initial-blocks cuts dependence faults)
      (λ at blocks. blocks.stands) (keeps-retired cuts dependence faults) (happens-blocks cuts dependence faults settled short) events p;
  complete = λ cuts dependence faults events settled short. complete-has_all cuts dependence faults settled short events;
}
