use Rattle.std.proofs.Common.{[], ◌∷◌, sym, ◌∙◌}
use Rattle.task_ast.specs.View.{plain_task}
use Rattle.task_parser.specs.declared.classes.TheConstants.{TASK}
use Rattle.task_parser.specs.inner.Classes.{among}
use Rattle.task_parser.specs.inner.ProgramReaders.{read_task}
use Rattle.task_parser.proofs.ReadPrograms.{task_shortens}
use Rattle.task_parser.proofs.Loop.{pushed}
use Rattle.task_parser.proofs.tasks.tasks.Goals as goal

pub loop-source-smaller : goal.loop-source-smaller
loop-source-smaller c =
    task_shortens c.args.source.text.now c.args.room c.loop-source.rest.now _ c.in_ok-next.after.now c.in_ok-next.ensures

pub loop-source-preserved : goal.loop-source-preserved
loop-source-preserved c =
    rw c.in_ok-push-2.ensures.ok
    (pushed (among (TASK ∷ [])) (read_task c.args.source.text.now c.args.room) plain_task c.loop-source.tasks c.in_ok-next.next
    c.loop-source.rest.now c.in_ok-next.after.now _ (task_shortens c.args.source.text.now c.args.room)
    (sym c.is_next.ensures ∙ c.loop-source-test.true) c.in_ok-next.ensures c.loop-source.invariant)
