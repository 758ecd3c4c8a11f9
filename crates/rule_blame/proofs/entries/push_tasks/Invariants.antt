use Rattle.std.proofs.Common.{◌≡◌, ◌++◌, drop, map}
use Rattle.task_ast.specs.meaning.Tree.{TaskText}
use Rattle.task_ast.specs.View.{plain_task}
use Rattle.rule_blame.specs.Views.{entries_in}
use Rattle.rule_blame.proofs.entries.push_tasks.Given as goal

abbrev pub invariant-loop-task : goal.invariant-loop-task
invariant-loop-task l =
    entries_in l.entries.items ++ map (λ (t : TaskText). (t.name, t.line)) (map plain_task (drop l.task-index l.tasks))
    ≡ entries_in l.initial.entries.items ++ map (λ (t : TaskText). (t.name, t.line)) (map plain_task l.tasks)
