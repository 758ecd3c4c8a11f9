use Rattle.std.proofs.Common.{◌≡◌, List, ◌++◌, map, take, drop}
use Rattle.task_ast.specs.meaning.Tree.{Name}
use Rattle.task_ast.specs.meaning.Declarations.{task_visits}
use Rattle.task_ast.specs.View.{plain_task}
use Rattle.task_ast.specs.meaning.Visit.{first_fault}
use Rattle.lock_checker.specs.inner.Heads.{HasNames}
use Rattle.lock_checker.specs.inner.TaskNames.{names_of}
use Rattle.lock_checker.proofs.tasks.check_tasks.Given as goal

-- the tasks left tell the rest
abbrev pub invariant-loop-task : goal.invariant-loop-task
invariant-loop-task l =
    (before : List Name) → HasNames l.initial.names before
    → HasNames l.names (before ++ names_of (take l.task-index l.tasks))
    × (first_fault (task_visits (before ++ names_of (take l.task-index l.tasks)) (map plain_task (drop l.task-index l.tasks)))
    ≡ first_fault (task_visits before (map plain_task l.tasks)))
