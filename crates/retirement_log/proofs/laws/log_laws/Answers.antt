use Rattle.retirement_log.proofs.Placed.{count_is, bytes_are}
use Rattle.retirement_log.proofs.laws.log_laws.Goals as goal

pub returns : goal.returns
returns c = record {
  count = count_is;
  bytes = bytes_are;
}
