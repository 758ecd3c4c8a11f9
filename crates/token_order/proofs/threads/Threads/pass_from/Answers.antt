use Rattle.std.proofs.Common.{◌<◌, ◌≤◌, ◌∙◌, sym, length, arith}
use Rattle.std.proofs.lemmas.List.{length-map}
use Rattle.token_order.specs.Spans.{no_pass}
use Rattle.token_order.specs.View.{table, seat_of}
use Rattle.token_order.proofs.Stretches.{passes-over, past-within, none-met}
use Rattle.token_order.proofs.threads.Threads.pass_from.Goals as goal
use Rattle.token_order.proofs.threads.Threads.pass_from.Goals.{In-Some}

pub returns-then-way-from-clause-passes : goal.returns-then-way-from-clause-passes
returns-then-way-from-clause-passes c = no_pass

pub returns-then-to-way-clause-passes : goal.returns-then-to-way-clause-passes
returns-then-to-way-clause-passes c = no_pass

pub returns-then-meets-clause-passes : goal.returns-then-meets-clause-passes
returns-then-meets-clause-passes c = no_pass

pub returns-in_default-clause-passes : goal.returns-in_default-clause-passes
returns-in_default-clause-passes c = no_pass

beyond : (c : In-Some) → c.args.from < c.way_from-way.result.past
beyond c = omega arith

within : (c : In-Some) → c.way_from-way.result.past ≤ length (table c.args.self.now).seats
within c =
    past-within (table c.args.self.now).seats c.args.from c.way_from-way.result.past (beyond c)
    (c.way_from-way.ensures.stopped.waits (beyond c))

pub overflow_cast-self : goal.overflow_cast-self
overflow_cast-self c =
    let there = within (goal.at.overflow_cast-self c).In-Some in
    let same = length-map c.args.self.now.seats.items seat_of in
    let few = c.requires.inside.few in
    omega (arith, there, same, few)

pub returns-clause-passes : goal.returns-clause-passes
returns-clause-passes c =
    let some = (goal.at.returns-clause-passes c).In-Some in
    let there = table c.args.self.now in
    let way = c.way_from-way.ensures.stopped in
    let to = way.within (beyond some) in
    let inside : c.way_from-way.result.past ≤ c.args.to = omega arith in
    passes-over there c.args.spans.now.span c.args.from c.way_from-way.result.past (within some)
    (λ t l m. way.each t l (omega (arith, m, to)))
    (none-met c.args.self.now.passed.first c.args.self.now.passed.last c.args.from c.way_from-way.result.past there.seats
    c.requires.inside.walks.passed (sym c.meets.ensures ∙ c.if-meets.false))
    (λ t l m. (c.in-Some.ensures.inside t l m).0)
    c.args.to c.in-Some.span (beyond some) inside c.requires.comes (way.waits (beyond some)) c.in-Some.ensures

pub returns-clause-inside : goal.returns-clause-inside
returns-clause-inside c =
    let some = (goal.at.returns-clause-inside c).In-Some in
    let there = within some in
    let same = length-map c.args.self.now.seats.items seat_of in
    let l = beyond some in
    record {
      few = c.requires.inside.few;
      token = omega (arith, there, same, l);
      locks = c.requires.inside.locks;
      walks = c.requires.inside.walks;
    }
