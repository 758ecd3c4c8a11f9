use Rattle.std.proofs.Common.{◌≡◌, ◌^◌, ◌-◌, min, take}
use Rattle.task_parser.specs.meaning.Pieces.{decimal}
use Rattle.task_parser.proofs.lexer.decimal.Given as goal

abbrev pub invariant-loop-digit : goal.invariant-loop-digit
invariant-loop-digit l = l.value ≡ min (2 ^ 64 - 1) (decimal (take l.digit-index l.digits))
