use Rattle.rule_blame.specs.Views.{scope_of, pairs_of}
use Rattle.rule_blame.proofs.PointLemmas.{choice_first, choice_second}
use Rattle.rule_blame.proofs.points.end_choice.Goals as goal

pub returns-in-Some : goal.returns-in-Some
returns-in-Some c = λ line e a b one other.
    choice_first (scope_of c.args.walk.scope) c.args.walk.line line e a b (pairs_of c.args.held.now.items) c.in-Some.told
    (rw c.in-Some.is at one)

pub returns-in-Some-found : goal.returns-in-Some-found
returns-in-Some-found c = λ line e a b one other.
    choice_second (scope_of c.args.walk.scope) c.args.walk.line line e a b (pairs_of c.args.held.now.items) c.in-Some-found.told
    (rw c.in-Some-found.is at other)
