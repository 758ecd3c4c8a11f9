use Rattle.std.proofs.Common.{◌≡◌, ◌++◌}
use Rattle.subthread.proofs.cells.old_values.Given as goal

abbrev pub invariant-keeping : goal.invariant-keeping
invariant-keeping l = l.values.items ++ l.cell-iterator ≡ l.olds.entries
