use Rattle.std.proofs.Common.{rules}
use Rattle.lock_checker.proofs.program.check.Goals as goal

pub returns-in_ok-of-in-Ok-clause-fault : goal.returns-in_ok-of-in-Ok-clause-fault
returns-in_ok-of-in-Ok-clause-fault c = search rules
