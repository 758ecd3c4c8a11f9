use Rattle.std.proofs.Common.{rules}
use Rattle.lock_checker.proofs.pair.Pair.new.Goals as goal

pub returns : goal.returns
returns c = search rules
