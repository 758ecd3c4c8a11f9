use Rattle.std.proofs.Common.{[], ◌∷◌, sym, ◌∙◌}
use Rattle.task_ast.specs.View.{plain_expr}
use Rattle.task_parser.specs.declared.classes.TheConstants.{COMMA}
use Rattle.task_parser.specs.inner.Classes.{among}
use Rattle.task_parser.specs.inner.Reading.{read_after}
use Rattle.task_parser.specs.inner.ExpressionReaders.{read_expression}
use Rattle.task_parser.proofs.ReadStatements.{next_shortens}
use Rattle.task_parser.proofs.Loop.{pushed}
use Rattle.task_parser.proofs.operands.exprs.Goals as goal

pub loop-source-smaller : goal.loop-source-smaller
loop-source-smaller c =
    next_shortens c.args.source.text.now c.args.room c.loop-source.rest.now _ c.in_ok-next.after.now c.in_ok-next.ensures

pub loop-source-preserved : goal.loop-source-preserved
loop-source-preserved c =
    rw c.in_ok-push-2.ensures.ok
    (pushed (among (COMMA ∷ [])) (read_after COMMA (read_expression c.args.source.text.now c.args.room)) plain_expr c.loop-source.exprs
    c.in_ok-next.next c.loop-source.rest.now c.in_ok-next.after.now _ (next_shortens c.args.source.text.now c.args.room)
    (sym c.is_next.ensures ∙ c.loop-source-test.true) c.in_ok-next.ensures c.loop-source.invariant)
