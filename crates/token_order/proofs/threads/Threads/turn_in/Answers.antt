use Rattle.std.proofs.Common.{◌∙◌, sym, subst}
use Rattle.task_ast.specs.Turn.{turn}
use Rattle.token_order.specs.Spans.{shown}
use Rattle.token_order.specs.Turned.{Answered}
use Rattle.token_order.specs.View.{table}
use Rattle.token_order.proofs.Inside.{turn-stands}
use Rattle.token_order.proofs.Outcomes.{round_answer, turn_answer, turn_stops, ways_kept}
use Rattle.token_order.proofs.threads.Threads.turn_in.Goals as goal

pub returns-then-comes_round-clause-answer : goal.returns-then-comes_round-clause-answer
returns-then-comes_round-clause-answer c =
    round_answer (table c.args.self.now) c.args.spans.now.span c.deadlock.result (sym c.comes_round.ensures ∙ c.if-comes_round.true)
    c.deadlock.ensures

pub returns-then-opens-clause-answer : goal.returns-then-opens-clause-answer
returns-then-opens-clause-answer c =
    let there = table c.args.self.now in
    let span = c.args.spans.now.span in
    subst (λ s. Answered (turn (shown span there)) (shown span there) c.turn-turn.result (shown s (table c.turn-turn.new.self)))
    (sym c.span_after-spans.ensures)
    (turn_answer there span c.turn-turn.result (table c.turn-turn.new.self) c.arrives-arrives.result
    (sym c.comes_round.ensures ∙ c.if-comes_round.false) c.arrives-arrives.ensures c.turn-turn.ensures.answer)

pub returns-else-opens-clause-answer : goal.returns-else-opens-clause-answer
returns-else-opens-clause-answer c =
    let there = table c.args.self.now in
    let span = c.args.spans.now.span in
    subst (λ s. Answered (turn (shown span there)) (shown span there) c.turn-turn.result (shown s (table c.turn-turn.new.self)))
    (sym c.span_after-spans.ensures)
    (turn_answer there span c.turn-turn.result (table c.turn-turn.new.self) c.arrives-arrives.result
    (sym c.comes_round.ensures ∙ c.if-comes_round.false) c.arrives-arrives.ensures c.turn-turn.ensures.answer)

pub returns-then-opens-clause-inside : goal.returns-then-opens-clause-inside
returns-then-opens-clause-inside c =
    turn-stands c.args.self.now c.turn-turn.new.self c.turn-turn.result c.requires.inside c.turn-turn.ensures.walks c.turn-turn.ensures.answer

pub returns-else-opens-clause-inside : goal.returns-else-opens-clause-inside
returns-else-opens-clause-inside c =
    turn-stands c.args.self.now c.turn-turn.new.self c.turn-turn.result c.requires.inside c.turn-turn.ensures.walks c.turn-turn.ensures.answer

pub returns-else-opens-clause-ways : goal.returns-else-opens-clause-ways
returns-else-opens-clause-ways c =
    let there = table c.args.self.now in
    let after = table c.turn-turn.new.self in
    ways_kept c.args.spans.now.ways.items there.seats after.seats
    (turn_stops there c.args.spans.now.span c.turn-turn.result after c.arrives-arrives.result
    (sym c.comes_round.ensures ∙ c.if-comes_round.false) c.arrives-arrives.ensures c.turn-turn.ensures.answer
    (sym c.opens.ensures ∙ c.if-opens.false)) c.requires.ways
