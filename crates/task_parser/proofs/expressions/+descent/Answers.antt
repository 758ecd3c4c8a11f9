use Rattle.std.proofs.Common.{sym, ◌∙◌}
use Rattle.task_ast.specs.declared.tree.Op.{Op}
use Rattle.task_ast.specs.declared.tree.Expr.{Expr}
use Rattle.task_ast.specs.View.{plain_expr}
use Rattle.task_parser.specs.inner.Classes.{among}
use Rattle.task_parser.specs.inner.ExpressionReaders.{read_member}
use Rattle.task_parser.specs.inner.Gives.{operators, read_part}
use Rattle.task_parser.proofs.Levels.{member_shortens}
use Rattle.task_parser.proofs.Loop.{pushed}
use Rattle.task_parser.proofs.expressions.+descent.Goals as goal

pub members-loop-level-smaller : goal.members-loop-level-smaller
members-loop-level-smaller t c =
    member_shortens c.args.level c.args.source.text.now c.args.room c.loop-level.rest.now _ c.in_ok-next.after.now c.in_ok-next.ensures

pub members-loop-level-preserved : goal.members-loop-level-preserved
members-loop-level-preserved t c =
    rw c.in_ok-push.ensures.ok
    (pushed (among (operators c.args.level)) (read_member (operators c.args.level)
    (read_part c.args.level c.args.source.text.now c.args.room))
    (λ (m : Op × Expr). (m.0, plain_expr m.1)) c.loop-level.members c.in_ok-next.next c.loop-level.rest.now c.in_ok-next.after.now _
    (member_shortens c.args.level c.args.source.text.now c.args.room)
    (sym c.goes_on.ensures ∙ c.loop-level-test.true) c.in_ok-next.ensures c.loop-level.invariant)
