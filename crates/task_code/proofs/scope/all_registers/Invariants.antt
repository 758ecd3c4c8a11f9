use Rattle.std.proofs.Common.{◌≡◌, map, take}
use Rattle.task_ast.specs.meaning.Names.{registers_of}
use Rattle.task_ast.specs.View.{plain_task}
use Rattle.task_code.proofs.scope.all_registers.Given as goal

abbrev pub invariant-loop-task : goal.invariant-loop-task
invariant-loop-task l = l.all.items ≡ map registers_of (map plain_task (take l.task-index l.tasks))
