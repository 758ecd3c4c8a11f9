use Rattle.dependence.proofs.Standing.{initial-stands, happens-stands, stands-from, keeps-retired, none-live, issue-passes}
use Rattle.dependence.proofs.IssuedPositions.{initial-issued, issued-from}
use Rattle.dependence.proofs.laws.standing_laws.Goals as goal

pub returns : goal.returns
returns c = record {
  short = λ faults in_range k d l. (in_range k d l).delay;
  initial = λ dependence faults. (initial-stands dependence faults, initial-issued);
  event =
      λ dependence faults at event redoes short keeps stands allowed.
      happens-stands dependence redoes faults short at event keeps stands allowed;
  journal =
      λ dependence faults at events redoes short keeps stands lawful.
      stands-from dependence redoes faults short keeps at events stands lawful;
  retired = keeps-retired;
  none_live = none-live;
  passes = issue-passes;
  issued = λ dependence faults at events redoes names lawful. issued-from dependence redoes faults at events lawful names;
}
