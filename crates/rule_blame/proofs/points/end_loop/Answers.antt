use Rattle.rule_blame.specs.Views.{scope_of, pairs_of}
use Rattle.rule_blame.proofs.PointLemmas.{loop_found, loop_apart}
use Rattle.rule_blame.proofs.points.end_loop.Goals as goal

pub returns-in-Some : goal.returns-in-Some
returns-in-Some c = λ e body walked.
    loop_found (scope_of c.args.walk.scope) c.args.walk.line c.args.line e body (pairs_of c.args.held.now.items) c.in-Some.told
    (rw c.in-Some.is at walked)

pub returns-in-Some-apart : goal.returns-in-Some-apart
returns-in-Some-apart c = λ e body walked.
    loop_apart (scope_of c.args.walk.scope) c.args.walk.line c.args.line e body (pairs_of c.args.held.now.items)
    (pairs_of c.args.inside.held.items) c.in-Some-apart.taken c.in-Some-apart.before (c.asks_ends.ensures c.if-not-asks_ends.false)
    (rw c.in_default.is at walked) (rw (c.deref.ensures.value, c.deref-2.ensures.value) at c.in-Some-apart.ensures)
