use Rattle.std.proofs.Common.{length}
use Rattle.gp_resume.specs.inner.Fronts.{ReadsMany, EndsNumber, IsWideCell, cell_text}
use Rattle.gp_resume.proofs.groups.cells_at.Given as goal

abbrev pub invariant-reading : goal.invariant-reading
invariant-reading l = ReadsMany cell_text IsWideCell EndsNumber l.bytes l.cells l.rest

abbrev pub decreases-reading : goal.decreases-reading
decreases-reading l = length l.rest
