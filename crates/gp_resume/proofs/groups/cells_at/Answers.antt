use Rattle.std.proofs.Common.{subst, sym, refl}
use Rattle.gp_resume.specs.inner.Fronts.{ReadsMany, EndsNumber, IsWideCell, cell_text}
use Rattle.gp_resume.proofs.Fronts.{many-more, many-end}
use Rattle.gp_resume.proofs.groups.cells_at.Goals as goal

pub reading-preserved : goal.reading-preserved
reading-preserved c =
    subst (λ cells. ReadsMany cell_text IsWideCell EndsNumber c.args.bytes.now cells c.in-Some.later.now)
    (sym c.in_ok-push-in-Some.ensures.ok)
    (many-more cell_text IsWideCell EndsNumber (λ value rest. refl) c.args.bytes.now c.reading.rest.now c.in-Some.later.now c.reading.cells
    c.in-Some.cell c.reading.invariant c.in-Some.ensures)

pub returns-in-None : goal.returns-in-None
returns-in-None c =
    many-end cell_text IsWideCell EndsNumber (λ value rest. refl) c.args.bytes.now c.reading.rest.now c.reading.cells c.reading.invariant
    c.in-None.ensures
