use Rattle.std.proofs.Common.{◌∙◌, ap, map, ◌≡◌, sym, subst}
use Rattle.std.specs.Prelude.{slice_get}
use Rattle.task_ast.specs.meaning.Layout.{layout, lock_over}
use Rattle.task_ast.specs.meaning.Names.{locks_of}
use Rattle.task_ast.specs.Shaped.{IsAccepted}
use Rattle.task_ast.specs.View.{plain_task, plain_program}
use Rattle.task_code.specs.Existing.{params_of}
use Rattle.task_code.specs.inner.Tasks.{AreTasksOf}
use Rattle.task_code.proofs.TaskLists.{parts_made}
use Rattle.task_code.proofs.lowering.lower.Goals as goal

pub of-requires-2 : goal.of-requires-2
of-requires-2 c =
    let program = c.program-program.result.now in
    let same = c.program-program.ensures in
    parts_made _ program c.of.ensures (subst (λ p. IsAccepted (plain_program p)) (sym same) c.args.c.now.accepted)
    (subst (λ p. AreTasksOf (plain_program p) p.tasks c.in_ok-tasks.tasks c.in_ok-tasks.shapes) (sym same) c.in_ok-tasks.ensures)
    (c.in_ok-params.ensures ∙ ap (λ t. map params_of (map plain_task t)) c.as_slice.ensures)
    (c.in_ok-main.ensures (plain_program program) c.in_ok-index.ensures) c.in_ok-barriers.ensures
    (subst (λ p. c.in_ok-layout.layout ≡ layout p.heads) (sym same) c.in_ok-layout.ensures)
    (λ cell. subst (λ p. slice_get c.in_ok-over.over cell ≡ lock_over (locks_of p.heads) p.heads cell) (sym same)
    (c.in_ok-over.ensures cell))
