use Rattle.std.proofs.Common.{◌≡◌, ◌+◌, ◌++◌, ◌∙◌, ap, sym, subst, take, drop, map}
use Rattle.std.specs.Prelude.{is_some}
use Rattle.task_ast.specs.meaning.Names.{is_among}
use Rattle.task_ast.specs.meaning.Declarations.{task_visits}
use Rattle.task_ast.specs.View.{plain_task}
use Rattle.task_ast.specs.meaning.Visit.{first_fault}
use Rattle.lock_checker.specs.inner.Heads.{HasNames}
use Rattle.lock_checker.specs.inner.TaskNames.{names_of}
use Rattle.lock_checker.proofs.HeadLemmas.{names_with}
use Rattle.lock_checker.proofs.TaskLemmas.{names_more, tasks_later, task_told}
use Rattle.lock_checker.proofs.tasks.check_tasks.Goals as goal

pub returns-in-Err : goal.returns-in-Err
returns-in-Err c = λ before had.
    let kept = c.loop-task.invariant before had in
    let names = before ++ names_of (take c.loop-task.task-index c.args.tasks.now) in
    let double : c.is_some-double.result ≡ is_among c.task-item.result.name names =
    c.is_some-double.ensures ∙ ap is_some c.get.ensures ∙ kept.0.same c.task-item.result.name in
    task_told c.args.tasks.now c.loop-task.task-index c.task-item.result c.loop-task-test.true c.task-item.is names c.in-Err.fault _ kept.1
    (c.in-Err.ensures names double)

pub loop-task-preserved : goal.loop-task-preserved
loop-task-preserved c = λ before had.
    let kept = c.loop-task.invariant before had in
    let names = before ++ names_of (take c.loop-task.task-index c.args.tasks.now) in
    let double : c.is_some-double.result ≡ is_among c.task-item.result.name names =
    c.is_some-double.ensures ∙ ap is_some c.get.ensures ∙ kept.0.same c.task-item.result.name in
    let more = names_more c.args.tasks.now c.loop-task.task-index c.task-item.result c.loop-task-test.true c.task-item.is before in (
      subst (HasNames c.put.new.self) (sym more)
          (names_with c.loop-task.names c.put.new.self names c.task-item.result.name kept.0 c.in_ok-put.ensures),
      ap (λ l. first_fault (task_visits l (map plain_task (drop (c.loop-task.task-index + 1) c.args.tasks.now)))) more
          ∙ tasks_later c.args.tasks.now c.loop-task.task-index c.task-item.result c.loop-task-test.true c.task-item.is names
          (c.in-Ok.ensures names double) ∙ kept.1,
    )
