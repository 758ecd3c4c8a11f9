use Rattle.std.proofs.Common.{◌≡◌, map, take}
use Rattle.gp_resume.specs.inner.RowsRead.{write_in}
use Rattle.gp_resume.proofs.replay.writes_of.Given as goal

abbrev pub invariant-loop-cell : goal.invariant-loop-cell
invariant-loop-cell l = l.writes.items ≡ map write_in (take l.cell-index l.cells)
