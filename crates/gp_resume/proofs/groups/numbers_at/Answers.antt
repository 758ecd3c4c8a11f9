use Rattle.std.proofs.Common.{[], ◌∷◌, ◌++◌, ap, subst, sym, ◌∙◌, refl}
use Rattle.retirement_log.specs.meaning.Rows.{IsWide}
use Rattle.gp_resume.specs.inner.Fronts.{ReadsMany, EndsNumber, spaced_number}
use Rattle.gp_resume.proofs.Fronts.{many-more, many-end}
use Rattle.gp_resume.proofs.Numerals.{kept}
use Rattle.gp_resume.proofs.groups.numbers_at.Goals as goal

pub reading-preserved : goal.reading-preserved
reading-preserved c =
    let n = c.in-Some.number in
    let more = c.in_ok-push-in-Some.ensures.ok ∙ ap (λ z. c.reading.numbers ++ z ∷ []) (kept n c.in-Some.ensures.fit) in
    subst (λ numbers. ReadsMany spaced_number IsWide EndsNumber c.args.bytes.now numbers c.in-Some.later.now) (sym more)
    (many-more spaced_number IsWide EndsNumber (λ value rest. refl) c.args.bytes.now c.reading.rest.now c.in-Some.later.now
    c.reading.numbers n c.reading.invariant c.in-Some.ensures)

pub returns-in-None : goal.returns-in-None
returns-in-None c =
    many-end spaced_number IsWide EndsNumber (λ value rest. refl) c.args.bytes.now c.reading.rest.now c.reading.numbers c.reading.invariant
    c.in-None.ensures
