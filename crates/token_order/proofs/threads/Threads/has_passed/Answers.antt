use Rattle.std.proofs.Common.{◌∙◌, ◌||◌, ◌&&◌, sym, ap}
use Rattle.token_order.specs.Spans.{covers}
use Rattle.task_ast.specs.meaning.Table.{is_waiting}
use Rattle.token_order.specs.View.{table, seat_of, stand_view}
use Rattle.token_order.proofs.Shown.{passed-shown, and_true, and_false}
use Rattle.token_order.proofs.Turning.{seen}
use Rattle.token_order.proofs.threads.Threads.has_passed.Goals as goal

pub returns-then-seat : goal.returns-then-seat
returns-then-seat c =
    let seat = c.index-seat.result.now in
    let at = seen c.args.self.now c.args.t seat c.requires.exists c.index-seat.ensures in
    c.if-seat.true
    ∙ sym (passed-shown c.args.span (table c.args.self.now) c.args.t (seat_of seat) at
    ∙ ap (λ p. p || (covers c.args.span c.args.t && is_waiting (stand_view seat.stand))) c.if-seat.true)

pub returns-then-is_waiting : goal.returns-then-is_waiting
returns-then-is_waiting c =
    let seat = c.index-seat.result.now in
    let at = seen c.args.self.now c.args.t seat c.requires.exists c.index-seat.ensures in
    c.covers.ensures
    ∙ sym (passed-shown c.args.span (table c.args.self.now) c.args.t (seat_of seat) at
    ∙ ap (λ p. p || (covers c.args.span c.args.t && is_waiting (stand_view seat.stand))) c.if-seat.false
    ∙ ap (λ w. covers c.args.span c.args.t && w) (sym c.is_waiting.ensures ∙ c.if-is_waiting.true) ∙ and_true (covers c.args.span c.args.t))

pub returns-else-is_waiting : goal.returns-else-is_waiting
returns-else-is_waiting c =
    let seat = c.index-seat.result.now in
    let at = seen c.args.self.now c.args.t seat c.requires.exists c.index-seat.ensures in
    c.if-is_waiting.false
    ∙ sym (passed-shown c.args.span (table c.args.self.now) c.args.t (seat_of seat) at
    ∙ ap (λ p. p || (covers c.args.span c.args.t && is_waiting (stand_view seat.stand))) c.if-seat.false
    ∙ ap (λ w. covers c.args.span c.args.t && w) (sym c.is_waiting.ensures ∙ c.if-is_waiting.false) ∙ and_false (covers c.args.span c.args.t))
