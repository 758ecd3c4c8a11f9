use Rattle.std.proofs.Common.{◌≡◌, ◌<◌, ◌≤◌, [], ◌∷◌, ◌++◌, ◌∙◌, ap, sym, subst, take, take_all, length, get_or, rules}
use Rattle.std.proofs.lemmas.List.{take_more}
use Rattle.task_ast.specs.declared.tree.TaskText.{TaskText}
use Rattle.lock_checker.specs.inner.Indexes.{Finds}
use Rattle.lock_checker.proofs.IndexLemmas.{index_made}
use Rattle.lock_checker.proofs.index.index_of.Goals as goal

pub loop-task-preserved : goal.loop-task-preserved
loop-task-preserved c =
    let texts = c.args.program.now.tasks in
    let heads = c.args.program.now.heads in
    let before = take c.loop-task.task-index texts in
    let within : c.loop-task.task-index < length texts = search rules in
    let is : c.task-item.result ≡ get_or texts c.loop-task.task-index c.task-item.result = search rules in
    let more = take_more texts c.loop-task.task-index c.task-item.result within ∙ ap (λ (t : TaskText). before ++ t ∷ []) (sym is) in
    subst (λ l. Finds c.add_task.new.self heads l) (sym more) (c.in_ok-add_task.ensures heads before c.loop-task.invariant)

pub returns : goal.returns
returns c =
    let texts = c.args.program.now.tasks in
    let past : length texts ≤ c.loop-task.task-index = search rules in
    index_made c.loop-task.index c.args.program.now
    (subst (λ l. Finds c.loop-task.index c.args.program.now.heads l) (take_all c.loop-task.task-index texts past) c.loop-task.invariant)
