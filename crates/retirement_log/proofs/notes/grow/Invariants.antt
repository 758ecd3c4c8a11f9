use Rattle.std.proofs.Common.{◌-◌, length}
use Rattle.retirement_log.specs.Telling.{KeepsRows}
use Rattle.retirement_log.proofs.notes.grow.Given as goal

-- no row went away
abbrev pub invariant-loop-rows : goal.invariant-loop-rows
invariant-loop-rows l = KeepsRows l.fn.rows.items l.rows.items

abbrev pub decreases-loop-rows : goal.decreases-loop-rows
decreases-loop-rows l = l.count - length l.rows.items
