use Rattle.std.proofs.Common.{rules}
use Rattle.lock_checker.proofs.rules.lock_rule.Goals as goal

pub returns-then-has : goal.returns-then-has
returns-then-has c = search rules
