use Rattle.std.proofs.Common.{length}
use Rattle.retirement_log.specs.meaning.Rows.{IsWide}
use Rattle.gp_resume.specs.inner.Fronts.{ReadsMany, EndsNumber, spaced_number}
use Rattle.gp_resume.proofs.groups.numbers_at.Given as goal

abbrev pub invariant-reading : goal.invariant-reading
invariant-reading l = ReadsMany spaced_number IsWide EndsNumber l.bytes l.numbers l.rest

abbrev pub decreases-reading : goal.decreases-reading
decreases-reading l = length l.rest
