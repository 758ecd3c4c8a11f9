use Rattle.std.proofs.Common.{◌≡◌, ◌++◌, ◌-◌, map}
use Rattle.task_ast.specs.meaning.State.{number_at}
use Rattle.task_ast.specs.meaning.Table.{numbers}
use Rattle.one_thread.proofs.opening.first_cells.Given as goal

abbrev pub invariant-loop-c : goal.invariant-loop-c
invariant-loop-c l = l.cells ++ map (number_at l.records) (numbers l.c (l.count - l.c)) ≡ map (number_at l.records) (numbers 0 l.count)
