use Rattle.std.proofs.Common.{◌≡◌, drop}
use Rattle.task_ast.specs.meaning.Names.{is_among, feeds_of}
use Rattle.rule_blame.proofs.scope.is_feed.Given as goal

abbrev pub invariant-loop-head : goal.invariant-loop-head
invariant-loop-head l =
    is_among l.x (feeds_of (drop l.head-index l.heads)) ≡ is_among l.x (feeds_of l.heads)
