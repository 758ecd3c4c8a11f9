use Rattle.std.proofs.Common.{[], ◌∷◌, sym, ◌∙◌}
use Rattle.task_parser.specs.declared.classes.TheConstants.{COMMA}
use Rattle.task_parser.specs.inner.Classes.{among}
use Rattle.task_parser.specs.inner.Reading.{read_after}
use Rattle.task_parser.specs.inner.ProgramReaders.{read_param}
use Rattle.task_parser.proofs.ReadPrograms.{next_param_shortens}
use Rattle.task_parser.proofs.Loop.{pushed_item}
use Rattle.task_parser.proofs.tasks.params.Goals as goal

pub loop-source-smaller : goal.loop-source-smaller
loop-source-smaller c = next_param_shortens c.args.source.text.now c.loop-source.rest.now _ c.in_ok-next.after.now c.in_ok-next.ensures

pub loop-source-preserved : goal.loop-source-preserved
loop-source-preserved c =
    rw c.in_ok-push-2.ensures.ok
    (pushed_item (among (COMMA ∷ [])) (read_after COMMA (read_param c.args.source.text.now)) c.loop-source.params c.in_ok-next.next
    c.loop-source.rest.now c.in_ok-next.after.now _ (next_param_shortens c.args.source.text.now)
    (sym c.is_next.ensures ∙ c.loop-source-test.true) c.in_ok-next.ensures c.loop-source.invariant)
