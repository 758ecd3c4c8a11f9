use Rattle.std.proofs.Common.{◌≡◌, drop, map}
use Rattle.std.specs.Prelude.{find}
use Rattle.task_ast.specs.meaning.Names.{is_task}
use Rattle.task_ast.specs.View.{plain_task}
use Rattle.rule_blame.proofs.scope.task_named.Given as goal

abbrev pub invariant-loop-task : goal.invariant-loop-task
invariant-loop-task l =
    find (is_task l.x) (map plain_task (drop l.task-index l.program.tasks)) ≡ find (is_task l.x) (map plain_task l.program.tasks)
