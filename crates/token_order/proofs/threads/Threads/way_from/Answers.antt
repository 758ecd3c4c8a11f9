use Rattle.std.proofs.Common.{◌<◌, ◌∙◌, sym, subst, length, max, ◌+◌, arith}
use Rattle.token_order.specs.Spans.{StoppedOver}
use Rattle.token_order.specs.View.{table, seat_of}
use Rattle.token_order.proofs.Turning.{seen}
use Rattle.token_order.proofs.Ways.{further}
use Rattle.token_order.proofs.threads.Threads.way_from.Goals as goal

pub loop-t-preserved : goal.loop-t-preserved
loop-t-preserved c =
    let self = c.args.self.now in
    let inside : c.loop-t.t < length self.seats.items = omega arith in
    let seat = c.index-seat.result.now in
    let there = table self in
    let over =
    further there.seats c.args.from c.loop-t.t c.loop-t.past (seat_of seat) c.is_waiting.result c.way_at-way.result
    (seen self c.loop-t.t seat inside c.index-seat.ensures) (sym c.is_stopped.ensures ∙ c.if-not-is_stopped.false) c.is_waiting.ensures
    c.loop-t.invariant (c.way_at-way.ensures there.seats c.requires.ways) in
    subst (λ n. StoppedOver c.args.from (record { to = n; past = c.past_of-past.result }) there.seats) (sym c.max-t.ensures)
    (subst (λ p. StoppedOver c.args.from (record { to = max (c.loop-t.t + 1) c.way_at-way.result.to; past = p }) there.seats)
    (sym c.past_of-past.ensures) over)
