use Rattle.std.proofs.Common.{◌≡◌, map, take}
use Rattle.task_ast.specs.View.{plain_task}
use Rattle.task_code.specs.inner.Tables.{targets}
use Rattle.task_code.proofs.tables.task_names.Given as goal

abbrev pub invariant-loop-task : goal.invariant-loop-task
invariant-loop-task l = targets l.names.items ≡ map (λ t. t.name) (map plain_task (take l.task-index l.tasks))
