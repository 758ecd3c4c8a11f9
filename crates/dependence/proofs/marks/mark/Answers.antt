use Rattle.std.proofs.Common.{◌<◌, length, ap, arith, rules}
use Rattle.std.proofs.lemmas.Bool.{eq-eqb, le-ltb}
use Rattle.dependence.proofs.Marking.{marked_none, marked_first, marked_reached}
use Rattle.dependence.proofs.marks.mark.Goals as goal
use Rattle.dependence.proofs.marks.mark.Goals.{then-position-first, else-position-first+then-position-first-2, else-position-first+else-position-first-2}

pub loop-position-preserved : goal.loop-position-preserved
loop-position-preserved c =
    let same = ap length c.as_slice-feet.ensures in
    let fits : c.loop-position.position < length c.loop-position.marks = omega arith in
    elim c.if-position-first.branch [
      | then-position-first w ↦
          rw (w.marks-is, eq-eqb _ _ w.if-position-first.true)
          (marked_first c.as_slice-feet.result.now c.args.first c.loop-position.marks c.loop-position.position c.loop-position.invariant
          fits w.if-position-first.true (omega arith))
      | else-position-first+then-position-first-2 w ↦
          rw w.marks-is (marked_reached c.as_slice-feet.result.now c.args.first c.loop-position.marks c.loop-position.position
          c.loop-position.invariant fits w.is_reached.result (omega arith) (omega arith) w.is_reached.ensures)
      | else-position-first+else-position-first-2 w ↦
          rw (w.marks-is, le-ltb _ _ w.if-position-first-2.false)
          (marked_none c.as_slice-feet.result.now c.args.first c.loop-position.marks c.loop-position.position
          c.loop-position.invariant fits (omega arith))
    ]

pub loop-position-init : goal.loop-position-init
loop-position-init c = search rules
