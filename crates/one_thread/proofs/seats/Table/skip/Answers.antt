use Rattle.std.proofs.Common.{◌≡◌, ◌<◌, ◌≤◌, ℕ, ◌∙◌, ap, sym, subst, false, map, length, arith}
use Rattle.std.proofs.lemmas.List.{length-map}
use Rattle.task_ast.specs.Table.{Table}
use Rattle.task_ast.specs.Turn.{next_issue}
use Rattle.ended_seats.specs.Idle.{passed_at}
use Rattle.one_thread.specs.inner.Resting.{rests, RestBetween, looking}
use Rattle.one_thread.specs.View.{table_of, seat_of}
use Rattle.one_thread.proofs.Jumps.{jumped, jumped-round, none-passed}
use Rattle.one_thread.proofs.seats.Table.skip.Goals as goal
use Rattle.one_thread.proofs.seats.Table.skip.Goals.{After-len-all}

-- the threads that there are
all : (c : After-len-all) → c.len-all.result ≡ length (table_of c.args.self.now).seats
all c =
    let self = c.args.self.now in
    c.len-all.ensures ∙ self.seats.ok.0 ∙ sym (length-map self.seats.items seat_of)

-- the token looks first at none beyond them
within : (c : After-len-all) → c.args.self.now.start ≤ length (table_of c.args.self.now).seats
within c =
    let self = c.args.self.now in
    subst (λ n. self.start ≤ n) (sym (length-map self.seats.items seat_of)) c.requires.walks.start

-- none has passed
none : (c : After-len-all) → (u : ℕ) → passed_at (table_of c.args.self.now).seats u ≡ false
none c =
    let self = c.args.self.now in
    none-passed self.passed.first self.passed.last (map seat_of self.seats.items) c.requires.walks.walks.passed (omega arith)

pub returns-then-later-all-clause-issue : goal.returns-then-later-all-clause-issue
returns-then-later-all-clause-issue c =
    let self = c.args.self.now in
    let here = (goal.at.returns-then-later-all-clause-issue c).After-len-all in
    let less : c.in_ok-later.later < c.len-all.result = omega arith in
    jumped (table_of self) self.start (within here) (none here) c.in_ok-later.later c.in_ok-later.ensures.onward
    (subst (λ n. c.in_ok-later.later < n) (all here) less) c.in_ok-later.ensures.rest
    (c.in_ok-later.ensures.awake less)
    ∙ ap (λ (table : Table). next_issue (looking table c.in_ok-later.later)) (sym c.in_ok-later.ensures.table)

pub returns-then-earlier-start-clause-issue : goal.returns-then-earlier-start-clause-issue
returns-then-earlier-start-clause-issue c =
    let self = c.args.self.now in
    let here = (goal.at.returns-then-earlier-start-clause-issue c).After-len-all in
    let n = all here in
    let less : c.in_ok-earlier.earlier < self.start = omega arith in
    let same = c.in_ok-later.ensures.table in
    jumped-round (table_of self) self.start (within here) (none here) c.in_ok-earlier.earlier less
    (λ u a b. c.in_ok-later.ensures.rest u a (omega (arith, b, n)))
    (subst (RestBetween 0 c.in_ok-earlier.earlier) same c.in_ok-earlier.ensures.rest)
    (subst (λ (table : Table). rests table c.in_ok-earlier.earlier ≡ false) same (c.in_ok-earlier.ensures.awake less))
    ∙ ap (λ (table : Table). next_issue (looking table c.in_ok-earlier.earlier)) (sym (c.in_ok-earlier.ensures.table ∙ same))
