use Rattle.std.proofs.Common.{◌≡◌, ◌++◌}
use Rattle.task_ast.specs.meaning.Table.{numbers}
use Rattle.lock_checker.proofs.layout.push_numbers.Given as goal

abbrev pub invariant-loop-k : goal.invariant-loop-k
invariant-loop-k l = l.over.items ≡ l.initial.over.items ++ numbers l.from l.k
