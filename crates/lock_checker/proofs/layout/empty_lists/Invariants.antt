use Rattle.std.proofs.Common.{◌≡◌, [], map}
use Rattle.lock_checker.specs.inner.Positions.{positions}
use Rattle.task_ast.specs.meaning.Table.{numbers}
use Rattle.lock_checker.proofs.layout.empty_lists.Given as goal

abbrev pub invariant-loop-lock : goal.invariant-loop-lock
invariant-loop-lock l = l.lists.items ≡ map (positions 0 []) (numbers 0 l._lock)
