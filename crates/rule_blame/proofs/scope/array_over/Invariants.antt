use Rattle.std.proofs.Common.{◌≡◌, drop}
use Rattle.task_ast.specs.meaning.Names.{named, arrays_over}
use Rattle.rule_blame.proofs.scope.array_over.Given as goal

abbrev pub invariant-loop-head : goal.invariant-loop-head
invariant-loop-head l =
    named l.x (arrays_over (drop l.head-index l.heads)) ≡ named l.x (arrays_over l.heads)
