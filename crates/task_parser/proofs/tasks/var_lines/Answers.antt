use Rattle.std.proofs.Common.{[], ◌∷◌, sym, ◌∙◌}
use Rattle.task_parser.specs.declared.classes.TheConstants.{VAR}
use Rattle.task_parser.specs.inner.Classes.{among}
use Rattle.task_parser.specs.inner.ProgramReaders.{read_var_line}
use Rattle.task_parser.proofs.ReadPrograms.{var_line_shortens}
use Rattle.task_parser.proofs.Loop.{pushed_item}
use Rattle.task_parser.proofs.tasks.var_lines.Goals as goal

pub loop-source-smaller : goal.loop-source-smaller
loop-source-smaller c = var_line_shortens c.args.source.text.now c.loop-source.rest.now _ c.in_ok-next.after.now c.in_ok-next.ensures

pub loop-source-preserved : goal.loop-source-preserved
loop-source-preserved c =
    rw c.in_ok-push.ensures.ok
    (pushed_item (among (VAR ∷ [])) (read_var_line c.args.source.text.now) c.loop-source.lines c.in_ok-next.next c.loop-source.rest.now
    c.in_ok-next.after.now _ (var_line_shortens c.args.source.text.now)
    (sym c.is_next.ensures ∙ c.loop-source-test.true) c.in_ok-next.ensures c.loop-source.invariant)
