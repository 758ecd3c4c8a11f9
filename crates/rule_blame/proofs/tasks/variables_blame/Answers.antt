use Rattle.std.proofs.Common.{◌≡◌, List, map, subst}
use Rattle.std.specs.List.{Contains}
use Rattle.task_ast.specs.declared.tree.TaskText.{TaskText}
use Rattle.task_ast.specs.View.{plain_task, plain_program}
use Rattle.rule_blame.proofs.Blaming.{task_among, task_true}
use Rattle.rule_blame.proofs.tasks.variables_blame.Goals as goal

pub returns-in-Some : goal.returns-in-Some
returns-in-Some c =
    task_true (plain_program c.args.program.now) c.args.line (plain_task c.task-item.result) c.in-Some.told
    (subst (λ (l : List TaskText). Contains (map plain_task l) (plain_task c.task-item.result)) c.as_slice-task-items.ensures
    (task_among c.as_slice-task-items.result.now c.loop-task.task-index c.task-item.result c.loop-task-test.true c.task-item.is))
    (rw c.in-Some.is at c.in_ok-told.ensures)
