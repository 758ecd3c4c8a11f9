use Rattle.std.proofs.Common.{◌∙◌, sym, subst, arith, length, ◌<◌, map}
use Rattle.ended_seats.specs.Idle.{IdleBetween}
use Rattle.one_thread.specs.View.{seat_of, onward_of}
use Rattle.task_ast.proofs.Looks.{get-at}
use Rattle.task_ast.proofs.SeenSeats.{seen-at}
use Rattle.ended_seats.proofs.Idle.{further}
use Rattle.ended_seats.proofs.Walks.{over}
use Rattle.one_thread.proofs.seats.Table.first_busy.Goals as goal

pub loop-t-preserved : goal.loop-t-preserved
loop-t-preserved c =
    let items = c.args.self.now.seats.items in
    let inside : c.loop-t.t < length items = omega arith in
    let seat = c.index-seat.result.now in
    let at = get-at items c.loop-t.t seat inside c.index-seat.ensures in
    subst (λ n. IdleBetween c.args.from n (map seat_of items)) (sym c.max-t.ensures)
    (further (map seat_of items) c.args.from c.loop-t.t seat.onward (seat_of seat) (seen-at seat_of items c.loop-t.t seat at)
    (sym c.is_idle.ensures ∙ c.if-not-is_idle.false) c.loop-t.invariant
    (over onward_of items (map seat_of items) c.loop-t.t seat at c.requires.walks.walks.idle))
