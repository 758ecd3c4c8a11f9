use Rattle.std.proofs.Common.{◌≡◌, drop}
use Rattle.task_ast.specs.meaning.Names.{named, locks_of}
use Rattle.rule_blame.proofs.scope.lock_size.Given as goal

abbrev pub invariant-loop-head : goal.invariant-loop-head
invariant-loop-head l =
    named l.x (locks_of (drop l.head-index l.heads)) ≡ named l.x (locks_of l.heads)
