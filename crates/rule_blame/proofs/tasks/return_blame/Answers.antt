use Rattle.std.proofs.Common.{◌≡◌, ◌∙◌, List, map, sym, subst}
use Rattle.std.specs.List.{Contains}
use Rattle.task_ast.specs.declared.tree.TaskText.{TaskText}
use Rattle.task_ast.specs.View.{plain_task}
use Rattle.rule_blame.proofs.Blaming.{task_among}
use Rattle.rule_blame.proofs.tasks.return_blame.Goals as goal

pub returns-then-declares_data : goal.returns-then-declares_data
returns-then-declares_data c = λ line. record {
  task = plain_task c.task-item.result;
  among = subst (λ (l : List TaskText). Contains (map plain_task l) (plain_task c.task-item.result)) c.as_slice-task-items.ensures
      (task_among c.as_slice-task-items.result.now c.loop-task.task-index c.task-item.result c.loop-task-test.true c.task-item.is);
  is = sym c.declares_data.ensures ∙ c.if-declares_data.true;
}
