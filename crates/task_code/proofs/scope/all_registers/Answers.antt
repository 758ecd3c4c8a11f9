use Rattle.std.proofs.Common.{[], ◌∷◌, ◌++◌, take, map, ap, sym, ◌∙◌}
use Rattle.std.proofs.lemmas.List.{map-append, map_more}
use Rattle.task_ast.specs.meaning.Names.{registers_of}
use Rattle.task_ast.specs.View.{plain_task}
use Rattle.task_code.proofs.scope.all_registers.Goals as goal

pub loop-task-preserved : goal.loop-task-preserved
loop-task-preserved c =
    let tasks = c.args.tasks.now in
    let i = c.loop-task.task-index in
    let task = c.task-item.result in
    let so_far = map plain_task (take i tasks) in
    c.in_ok-push.ensures.items ∙ ap (λ l. l ++ c.in_ok-register_names.field-0 ∷ []) c.loop-task.invariant
    ∙ ap (λ r. map registers_of so_far ++ r ∷ []) (c.in_ok-register_names.ensures ∙ ap (λ t. registers_of (plain_task t)) c.task-item.is)
    ∙ sym (ap (map registers_of) (map_more plain_task tasks i task c.loop-task-test.true) ∙ map-append registers_of so_far _)
