use Rattle.std.proofs.Common.{◌∙◌, sym, ap, arith, length, ◌-◌, ◌<◌, map}
use Rattle.task_ast.specs.meaning.Table.{numbers}
use Rattle.task_ast.specs.Turn.{look}
use Rattle.one_thread.specs.View.{table_of, seat_of, onward_of}
use Rattle.task_ast.proofs.Looks.{get-at}
use Rattle.ended_seats.proofs.Idle.{onwards}
use Rattle.ended_seats.proofs.Walks.{over}
use Rattle.one_thread.proofs.Looking.{seen}
use Rattle.one_thread.proofs.seats.Table.first_live.Goals as goal

pub loop-t-preserved : goal.loop-t-preserved
loop-t-preserved c =
    let self = c.args.self.now in
    let inside : c.loop-t.t < length self.seats.items = omega arith in
    let seat = c.index-seat.result.now in
    c.loop-t.invariant
    ∙ onwards (table_of self) c.loop-t.t c.args.to seat.onward (seat_of seat) (seen self c.loop-t.t seat inside c.index-seat.ensures)
    (sym c.has_ended.ensures ∙ c.if-not-has_ended.false) (omega arith)
    (over onward_of self.seats.items (map seat_of self.seats.items) c.loop-t.t seat
    (get-at self.seats.items c.loop-t.t seat inside c.index-seat.ensures) c.requires.walks.walks.idle)
    ∙ ap (λ t. look (table_of self) (numbers t (c.args.to - t))) (sym c.max-t.ensures)
