use Rattle.std.proofs.Common.{length, ◌-◌}
use Rattle.task_parser.proofs.LexProgress.{Progress}
use Rattle.task_parser.proofs.lexer.lex.Given as goal

abbrev pub invariant-loop-from : goal.invariant-loop-from
invariant-loop-from l = Progress l.bytes l.tokens l.from l.line

abbrev pub decreases-loop-from : goal.decreases-loop-from
decreases-loop-from l = length l.bytes - l.from
