use Rattle.std.proofs.Common.{sym, ◌∙◌, arith}
use Rattle.token_order.proofs.Turning.{seen}
use Rattle.token_order.proofs.Settling.{at_limit, is_unknown, has_gone, other, settles}
use Rattle.token_order.specs.View.{table, seat_of}
use Rattle.token_order.proofs.threads.Threads.settling.Goals as goal

pub returns-then-self : goal.returns-then-self
returns-then-self c = sym (at_limit (table c.args.self.now) c.if-self.true)

pub returns-in_default-next : goal.returns-in_default-next
returns-in_default-next c =
    let at = seen c.args.self.now c.in-Some.t c.index-seat.result.now c.in-Some.ensures.below c.index-seat.ensures in
    sym (is_unknown (table c.args.self.now) c.in-Some.t (seat_of c.index-seat.result.now) c.in-Some.ensures.found at c.in_default-next.is)

pub returns-then-seat : goal.returns-then-seat
returns-then-seat c =
    let at = seen c.args.self.now c.in-Some.t c.index-seat.result.now c.in-Some.ensures.below c.index-seat.ensures in
    sym (has_gone (table c.args.self.now) c.in-Some.t (seat_of c.index-seat.result.now) c.in-Some-next.next c.in-Some.ensures.found at
    c.in-Some-next.is c.if-seat.true)

pub returns-then-is_settle : goal.returns-then-is_settle
returns-then-is_settle c =
    let at = seen c.args.self.now c.in-Some.t c.index-seat.result.now c.in-Some.ensures.below c.index-seat.ensures in
    let more = c.if-self.false in
    sym (settles (table c.args.self.now) c.in-Some.t (seat_of c.index-seat.result.now) c.in-Some-next.next c.in-Some.ensures.found at
    c.in-Some-next.is c.if-seat.false
    (sym c.is_settle.ensures ∙ c.if-is_settle.true) (omega arith))

pub returns-else-is_settle : goal.returns-else-is_settle
returns-else-is_settle c =
    let at = seen c.args.self.now c.in-Some.t c.index-seat.result.now c.in-Some.ensures.below c.index-seat.ensures in
    sym (other (table c.args.self.now) c.in-Some.t (seat_of c.index-seat.result.now) c.in-Some-next.next c.in-Some.ensures.found at
    c.in-Some-next.is c.if-seat.false
    (sym c.is_settle.ensures ∙ c.if-is_settle.false))
