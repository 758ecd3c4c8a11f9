use Rattle.std.proofs.Common.{◌≡◌}
use Rattle.std.specs.Prelude.{ℤ}
use Rattle.record_store.specs.Given.{value_beside}
use Rattle.retirement_log.proofs.Cells.{beside_from}
use Rattle.retirement_log.proofs.rows.value_beside.Given as goal

-- the cell is none of those so far
abbrev pub invariant-loop-at : goal.invariant-loop-at
invariant-loop-at l = (other : ℤ) → beside_from l.cells l.values l.fn.cell l.at other ≡ value_beside l.cells l.values l.fn.cell other
