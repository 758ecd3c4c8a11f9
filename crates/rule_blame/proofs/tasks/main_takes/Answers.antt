use Rattle.std.proofs.Common.{◌≡◌, ◌∙◌, List, map, sym, subst}
use Rattle.std.specs.List.{Contains}
use Rattle.task_ast.specs.declared.tree.TaskText.{TaskText}
use Rattle.task_ast.specs.View.{plain_task}
use Rattle.rule_blame.proofs.Blaming.{task_among, some_params}
use Rattle.rule_blame.proofs.tasks.main_takes.Goals as goal

pub returns-then-not-is_empty : goal.returns-then-not-is_empty
returns-then-not-is_empty c = record {
  task = plain_task c.task-item.result;
  among = subst (λ (l : List TaskText). Contains (map plain_task l) (plain_task c.task-item.result)) c.as_slice-task-items.ensures
      (task_among c.as_slice-task-items.result.now c.loop-task.task-index c.task-item.result c.loop-task-test.true c.task-item.is);
  is = (
    c.if-task-line.true,
    sym c.is_main.ensures ∙ c.if-is_main.true,
    some_params c.task-item.result.params (λ e. let yes = c.is_empty.ensures.1 e in cc c.if-not-is_empty.true),
  );
}
