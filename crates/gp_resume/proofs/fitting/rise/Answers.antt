use Rattle.std.proofs.Common.{◌≡◌, ◌+◌, ◌-◌, ◌<◌, pos, get_or, subst, SFits, w64, rules, arith}
use Rattle.std.proofs.lemmas.Bool.{false≢true}
use Rattle.std.proofs.lemmas.Int.{to_z-of_z}
use Rattle.gp_resume.proofs.Rising.{number_of, sorted-cells, cells-rise, rises-more}
use Rattle.gp_resume.proofs.fitting.rise.Goals as goal

pub returns-then-counted : goal.returns-then-counted
returns-then-counted c =
    let cells = c.args.cells.now in
    let here = (get_or cells c.loop-at.at (pos 0, pos 0)).0 in
    let last = (get_or cells (c.loop-at.at - 1) (pos 0, pos 0)).0 in
    let here_fits : SFits w64 here = search rules in
    let last_fits : SFits w64 last = search rules in
    let here_is = rw (to_z-of_z w64 here here_fits) at c.counted.ensures in
    let last_is = rw (to_z-of_z w64 last last_fits) at c.counted-in-loop-at.ensures in
    let low = c.loop-at.auto.at in
    let inside = c.loop-at-test.true in
    let falls = c.if-counted.true in
    let next : c.loop-at.at - 1 + 1 ≡ c.loop-at.at = omega arith in (
      λ wrong. absurd (false≢true wrong),
      λ sorted. absurd (let less = cells-rise cells sorted (c.loop-at.at - 1) (omega arith) in
          let rises : number_of cells (c.loop-at.at - 1) < number_of cells c.loop-at.at =
          subst (λ m. number_of cells (c.loop-at.at - 1) < number_of cells m) next less in
          omega arith),
    )

pub returns : goal.returns
returns c = (
  λ is. sorted-cells c.args.cells.now (λ k less. c.loop-at.invariant.1 k (let all = c.loop-at-test.false in omega arith)),
  λ sorted. search rules,
)

pub loop-at-preserved : goal.loop-at-preserved
loop-at-preserved c =
    let cells = c.args.cells.now in
    let here = (get_or cells c.loop-at.at (pos 0, pos 0)).0 in
    let last = (get_or cells (c.loop-at.at - 1) (pos 0, pos 0)).0 in
    let here_fits : SFits w64 here = search rules in
    let last_fits : SFits w64 last = search rules in
    let here_is = rw (to_z-of_z w64 here here_fits) at c.counted.ensures in
    let last_is = rw (to_z-of_z w64 last last_fits) at c.counted-in-loop-at.ensures in
    let rises = c.if-counted.false in
    let low = c.loop-at.auto.at in
    (omega arith, rises-more cells c.loop-at.at c.loop-at.invariant.1 (λ some. omega arith))
