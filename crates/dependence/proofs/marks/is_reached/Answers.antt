use Rattle.std.proofs.Common.{arith, below_more, refl, rules}
use Rattle.std.proofs.lemmas.Bool.{both_ways}
use Rattle.dependence.proofs.Marking.{ClashIn-read}
use Rattle.dependence.proofs.marks.is_reached.Goals as goal
use Rattle.dependence.proofs.marks.is_reached.Goals.{else-marks-earlier-via-then-marks-earlier+else-conflict, else-marks-earlier-via-else-marks-earlier}

pub returns-then-conflict : goal.returns-then-conflict
returns-then-conflict c = (
  λ t. (
    c.loop-earlier.earlier,
    c.loop-earlier-test.true,
    c.if-marks-earlier.true,
    (ClashIn-read c.args.feet.now c.loop-earlier.earlier c.args.position _ _
        (omega arith) c.requires.in_range c.index-feet-earlier.is c.index-feet-position.is).0 (c.conflict.ensures.0 c.if-conflict.true),
  ),
  λ _. refl,
)

pub loop-earlier-preserved : goal.loop-earlier-preserved
loop-earlier-preserved c =
    below_more _ _ c.loop-earlier.invariant
    (elim c.else-marks-earlier.branch [
      | else-marks-earlier-via-then-marks-earlier+else-conflict w ↦ λ m clash.
          both_ways w.conflict.result w.if-conflict.false
          (w.conflict.ensures.1 ((ClashIn-read c.args.feet.now c.loop-earlier.earlier c.args.position _ _
          (omega arith) c.requires.in_range w.index-feet-earlier.is w.index-feet-position.is).1 clash))
      | else-marks-earlier-via-else-marks-earlier w ↦ λ m clash. both_ways _ w.if-marks-earlier.false m
    ])

pub returns : goal.returns
returns c = search rules
