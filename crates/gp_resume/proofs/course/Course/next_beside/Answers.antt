use Rattle.std.proofs.Common.{◌≡◌, ◌⊎◌, inl, inr, Bool, true, false, option_map, sym, ap, ◌∙◌, arith}
use Rattle.std.proofs.lemmas.Bool.{false≢true}
use Rattle.task_ast.specs.Turn.{turn}
use Rattle.token_order.specs.Turned.{settling_in}
use Rattle.task_ast.specs.laws.Threads.{ahead}
use Rattle.task_ast.proofs.Turns.{turn-IsFalling}
use Rattle.gp_resume.proofs.Besides.{calm, looked, flight-ring, beside-may, beside-joins}
use Rattle.gp_resume.proofs.Flights.{flight-past}
use Rattle.gp_resume.proofs.course.Course.next_beside.Goals as goal

-- what is not let is not there
shut : {P : Type 0} {cleared : Bool} → cleared ≡ false → (cleared ≡ true) ⊎ P → P
shut closed (inl is) = absurd (false≢true (sym closed ∙ is))
shut closed (inr it) = it

pub turning-init : goal.turning-init
turning-init c = record { flights = λ x y fs flight. flight; closed = c.requires.closed }

pub turning-smaller : goal.turning-smaller
turning-smaller c = turn-IsFalling.falls _ _ (ap turn (sym c.in_ok-reserve.ensures.table) ∙ c.in-Pass.ensures.turned.1)

pub turning-preserved : goal.turning-preserved
turning-preserved c = record {
  flights = λ x y fs flight.
      flight-past c.args.plan.now c.requires.suits c.args.threads x y fs c.turning.self c.turn.new.self
      (c.turning.invariant.flights x y fs flight)
      (ap turn (sym c.in_ok-reserve.ensures.table) ∙ c.in-Pass.ensures.turned.1);
  closed = c.in-Pass.ensures.cleared ∙ (c.in_ok-reserve.ensures.cleared ∙ c.turning.invariant.closed);
}

pub returns-in_default-clause-gives : goal.returns-in_default-clause-gives
returns-in_default-clause-gives c = λ x y fs flight.
    flight-ring c.args.plan.now c.args.threads x y fs c.turning.self c.reserve.new.self
    c.in_ok-reserve.ensures.table (c.turning.invariant.flights x y fs flight)

pub returns-then-ahead-threads-clause-gives : goal.returns-then-ahead-threads-clause-gives
returns-then-ahead-threads-clause-gives c = λ x y fs flight.
    flight-ring c.args.plan.now c.args.threads x y fs c.turning.self c.reserve.new.self
    c.in_ok-reserve.ensures.table (c.turning.invariant.flights x y fs flight)

pub returns-in-Settles-clause-gives : goal.returns-in-Settles-clause-gives
returns-in-Settles-clause-gives c = λ x y fs flight.
    flight-ring c.args.plan.now c.args.threads x y fs c.turning.self c.turn.new.self
    (c.in-Settles.ensures.turned.2 ∙ c.in_ok-reserve.ensures.table) (c.turning.invariant.flights x y fs flight)

pub returns-in-Needs-clause-gives : goal.returns-in-Needs-clause-gives
returns-in-Needs-clause-gives c = λ x y fs flight.
    flight-ring c.args.plan.now c.args.threads x y fs c.turning.self c.turn.new.self
    (c.in-Needs.ensures.turned.1.1 ∙ c.in_ok-reserve.ensures.table) (c.turning.invariant.flights x y fs flight)

pub returns-in-Ended-clause-gives : goal.returns-in-Ended-clause-gives
returns-in-Ended-clause-gives c = λ x y fs flight.
    flight-ring c.args.plan.now c.args.threads x y fs c.turning.self c.turn.new.self
    (c.in-Ended.ensures.turned.1.1 ∙ c.in_ok-reserve.ensures.table) (c.turning.invariant.flights x y fs flight)

pub prove-unreachable-requires : goal.prove-unreachable-requires
prove-unreachable-requires c =
    let first = c.requires.flying in
    let below = (beside-may c.args.plan.now c.requires.suits c.args.threads first.before first.later first.flights c.turning.self
    (c.turning.invariant.flights first.before first.later first.flights first.flight)
    c.in-Issue.thread c.in-Issue.begins c.in-Issue.child c.turn.new.self.table
    (ap turn (sym c.in_ok-reserve.ensures.table) ∙ c.in-Issue.ensures.turned.1)).2 in
    let not-below = c.if-prove.true in
    omega arith

pub issue-requires-clause-there : goal.issue-requires-clause-there
issue-requires-clause-there c =
    let first = c.requires.flying in
    (beside-may c.args.plan.now c.requires.suits c.args.threads first.before first.later first.flights c.turning.self
    (c.turning.invariant.flights first.before first.later first.flights first.flight)
    c.in-Issue.thread c.in-Issue.begins c.in-Issue.child c.turn.new.self.table
    (ap turn (sym c.in_ok-reserve.ensures.table) ∙ c.in-Issue.ensures.turned.1)).0

pub issue-requires-clause-few : goal.issue-requires-clause-few
issue-requires-clause-few c =
    let first = c.requires.flying in
    (beside-may c.args.plan.now c.requires.suits c.args.threads first.before first.later first.flights c.turning.self
    (c.turning.invariant.flights first.before first.later first.flights first.flight)
    c.in-Issue.thread c.in-Issue.begins c.in-Issue.child c.turn.new.self.table
    (ap turn (sym c.in_ok-reserve.ensures.table) ∙ c.in-Issue.ensures.turned.1)).1

pub returns-in-Issue-clause-gives : goal.returns-in-Issue-clause-gives
returns-in-Issue-clause-gives c = λ x y fs flight.
    let turned = ap turn (sym c.in_ok-reserve.ensures.table) ∙ c.in-Issue.ensures.turned.1 in
    let same = looked c.turning.self.ring.table c.in-Issue.thread c.in-Some.ahead c.in-Issue.begins c.in-Issue.child c.turn.new.self.table turned
    (sym c.in-Some.is ∙ (c.ahead.ensures ∙ ap (λ table. option_map (λ tried. tried.0) (ahead table)) c.in_ok-reserve.ensures.table)) in
    let not-past = c.if-ahead-threads.false in
    beside-joins c.args.plan.now c.requires.suits c.args.threads x y fs c.turning.self (c.turning.invariant.flights x y fs flight)
    c.in-Issue.thread c.in-Issue.begins c.in-Issue.child c.turn.new.self turned (omega arith)
    (calm c.turning.self.ring.table c.in-Issue.thread c.in-Issue.begins c.in-Issue.child c.turn.new.self.table turned
    (ap (λ table. settling_in (turn table)) (sym c.in_ok-reserve.ensures.table)
    ∙ shut (c.in_ok-reserve.ensures.cleared ∙ c.turning.invariant.closed) c.in-Issue.ensures.turned.0))
    c.issue.new.self c.in_ok-begun-in-Issue.begun c.in_ok-begun-in-Issue.ensures
