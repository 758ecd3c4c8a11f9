use Rattle.std.proofs.Common.{◌≡◌, map, take}
use Rattle.task_ast.specs.View.{plain_task}
use Rattle.task_code.specs.Existing.{params_of}
use Rattle.task_code.proofs.variables.all_params.Given as goal

abbrev pub invariant-loop-task : goal.invariant-loop-task
invariant-loop-task l = l.all ≡ map params_of (map plain_task (take l.task-index l.tasks))
