use Rattle.std.proofs.Common.{◌∙◌, sym, ap, map, take, count_by, arith}
use Rattle.task_ast.specs.Table.{waits_at}
use Rattle.task_ast.proofs.Counting.{one}
use Rattle.task_ast.proofs.Looks.{get-at}
use Rattle.task_ast.proofs.SeenSeats.{seen-at}
use Rattle.one_thread.specs.View.{seat_of, onward_of}
use Rattle.ended_seats.proofs.Walks.{over, counted}
use Rattle.one_thread.proofs.turns.waiting.Goals as goal
use Rattle.one_thread.proofs.turns.waiting.Goals.{then-is_waiting, else-is_waiting}

pub loop-t-preserved : goal.loop-t-preserved
loop-t-preserved c =
    let items = c.args.seats.now in
    let at = get-at items c.loop-t.t c.index-seats-t.result c.loop-t-test.true c.index-seats-t.is in
    let step =
    counted c.args.barrier c.loop-t.t _ (map seat_of items) _ (seen-at seat_of items c.loop-t.t _ at)
    (over onward_of items (map seat_of items) c.loop-t.t _ at c.requires.idle) in
    let next = c.max-t.ensures in
    let to = ap (λ n. count_by (waits_at c.args.barrier) (take n (map seat_of items))) next in
    let old = c.loop-t.invariant in
    elim c.if-is_waiting.branch [
      | then-is_waiting w ↦
          (let more = ap one (sym c.is_waiting.ensures ∙ w.if-is_waiting.true) in
          (omega (arith, step, to, old.0, more, w.number-is), omega (arith, old.1, next, w.number-is)))
      | else-is_waiting w ↦
          (let more = ap one (sym c.is_waiting.ensures ∙ w.if-is_waiting.false) in
          (omega (arith, step, to, old.0, more, w.number-is), omega (arith, old.1, next, w.number-is)))
    ]
