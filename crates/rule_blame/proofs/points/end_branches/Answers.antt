use Rattle.rule_blame.specs.Views.{scope_of, pairs_of}
use Rattle.rule_blame.proofs.PointLemmas.{first_found, second_found, branches_apart}
use Rattle.rule_blame.proofs.points.end_branches.Goals as goal

pub returns-in-Some : goal.returns-in-Some
returns-in-Some c = λ e a b one other.
    first_found (scope_of c.args.walk.scope) c.args.walk.line c.args.line e a b (pairs_of c.args.held.now.items) c.in-Some.told
    (rw c.in-Some.is at one)

pub returns-in-Some-found : goal.returns-in-Some-found
returns-in-Some-found c = λ e a b one other.
    second_found (scope_of c.args.walk.scope) c.args.walk.line c.args.line e a b (pairs_of c.args.held.now.items) c.in-Some-found.told
    (rw c.in-Some-found.is at other)

pub returns-in-Some-apart : goal.returns-in-Some-apart
returns-in-Some-apart c = λ e a b one other.
    branches_apart (scope_of c.args.walk.scope) c.args.walk.line c.args.line e a b (pairs_of c.args.held.now.items)
    (pairs_of c.args.first.held.items) (pairs_of c.args.second.held.items) c.in-Some-apart.taken c.in-Some-apart.first
    (c.asks_ends.ensures c.if-not-asks_ends.false) (rw c.in_default.is at one) (rw c.in_default-found.is at other)
    (rw (c.deref.ensures.value, c.deref-2.ensures.value) at c.in-Some-apart.ensures)
