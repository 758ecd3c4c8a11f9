use Rattle.std.proofs.Common.{subst, sym}
use Rattle.std.specs.Fmt.{signed_decimal}
use Rattle.retirement_log.specs.meaning.Rows.{IsWide}
use Rattle.gp_resume.specs.inner.Fronts.{IsOnlyFront, EndsNumber}
use Rattle.gp_resume.proofs.Numerals.{kept, no-number, some-number}
use Rattle.gp_resume.proofs.numbers.number_at.Goals as goal

pub returns-in_err-number : goal.returns-in_err-number
returns-in_err-number c = rw c.from_residual.ensures
    (λ n rest l ends e. no-number c.args.bytes.now c.split_at.result.0.now c.split_at.result.1.now c.split_at.ensures.by_index.0
    (rw c.split_at.ensures.front c.count_numeral.ensures.numeral)
    (rw (c.split_at.ensures.front, c.split_at.ensures.back) c.count_numeral.ensures.rest) c.in_err-number.ensures n rest l ends e)

pub returns : goal.returns
returns c =
    subst (λ n. IsOnlyFront signed_decimal IsWide EndsNumber c.args.bytes.now n c.split_at.result.1.now)
    (sym (kept c.in_ok-number.number c.in_ok-number.ensures.0))
    (some-number c.args.bytes.now c.split_at.result.0.now c.split_at.result.1.now c.in_ok-number.number c.split_at.ensures.by_index.0
    (rw (c.split_at.ensures.front, c.split_at.ensures.back) c.count_numeral.ensures.rest) c.in_ok-number.ensures.0 c.in_ok-number.ensures.1)
