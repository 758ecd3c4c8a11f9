use Rattle.std.proofs.Common.{◌≡◌, drop}
use Rattle.task_ast.specs.meaning.Names.{named, barriers_of}
use Rattle.rule_blame.proofs.scope.is_barrier.Given as goal

abbrev pub invariant-loop-head : goal.invariant-loop-head
invariant-loop-head l =
    named l.x (barriers_of (drop l.head-index l.heads)) ≡ named l.x (barriers_of l.heads)
