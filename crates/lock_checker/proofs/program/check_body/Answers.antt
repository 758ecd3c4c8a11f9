use Rattle.std.proofs.Common.{rules}
use Rattle.lock_checker.proofs.VisitLemmas.{inside_told}
use Rattle.lock_checker.proofs.program.check_body.Goals as goal

pub returns-in-Ok : goal.returns-in-Ok
returns-in-Ok c = search (rules, inside_told)
