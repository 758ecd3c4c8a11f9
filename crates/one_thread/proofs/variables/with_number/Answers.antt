use Rattle.std.proofs.Common.{rules}
use Rattle.one_thread.proofs.Settling.{number_set, number_past}
use Rattle.one_thread.proofs.variables.with_number.Goals as goal
use Rattle.one_thread.proofs.variables.with_number.Goals.{then-at-len, else-at-len}

pub returns : goal.returns
returns c = elim c.if-at-len.branch [
  | then-at-len w ↦ search (rules, number_set)
  | else-at-len w ↦ search (rules, number_past)
]
