use Rattle.rollback.proofs.Standing.{struck-cut, unbegun-applied, unbegun-out}
use Rattle.rollback.proofs.Rolled.{rolled-out, rolls-back}
use Rattle.rollback.proofs.driving_laws.rolled_laws.Goals as goal

pub returns : goal.returns
returns c = record {
  struck = struck-cut;
  out = λ cuts dependence faults at number p attempt blocks. rolled-out cuts dependence faults at blocks number p attempt;
  rolled = λ cuts dependence faults at number struck blocks. rolls-back cuts dependence faults at blocks number struck;
  unbegun = λ cuts dependence faults at p blocks unretired unposted. (
    unbegun-applied cuts dependence faults at p blocks unretired unposted,
    unbegun-out cuts dependence faults at p blocks unretired unposted,
  );
}
