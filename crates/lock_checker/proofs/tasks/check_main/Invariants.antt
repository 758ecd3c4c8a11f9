use Rattle.std.proofs.Common.{◌≡◌, drop, map}
use Rattle.std.specs.Prelude.{find}
use Rattle.task_ast.specs.meaning.Names.{is_task}
use Rattle.task_ast.specs.meaning.Declarations.{main}
use Rattle.task_ast.specs.View.{plain_task}
use Rattle.lock_checker.proofs.tasks.check_main.Given as goal

abbrev pub invariant-loop-task : goal.invariant-loop-task
invariant-loop-task l =
    find (is_task main) (map plain_task (drop l.task-index l.program.tasks)) ≡ find (is_task main) (map plain_task l.program.tasks)
