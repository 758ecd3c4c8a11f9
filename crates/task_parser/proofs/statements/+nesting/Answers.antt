use Rattle.std.proofs.Common.{sym, ◌∙◌}
use Rattle.task_ast.specs.View.{plain_stmt}
use Rattle.task_parser.specs.inner.Classes.{among}
use Rattle.task_parser.specs.inner.Gives.{starts, read_allowed}
use Rattle.task_parser.proofs.ReadStatements.{statement_shortens}
use Rattle.task_parser.proofs.Loop.{pushed}
use Rattle.task_parser.proofs.statements.+nesting.Goals as goal

pub statements-loop-allowed-smaller : goal.statements-loop-allowed-smaller
statements-loop-allowed-smaller t c =
    statement_shortens c.args.allowed c.args.source.text.now c.args.room c.loop-allowed.rest.now _
    c.in_ok-next.after.now c.in_ok-next.ensures

pub statements-loop-allowed-preserved : goal.statements-loop-allowed-preserved
statements-loop-allowed-preserved t c =
    rw c.in_ok-push.ensures.ok
    (pushed (among (starts c.args.allowed)) (read_allowed c.args.allowed c.args.source.text.now c.args.room) plain_stmt
    c.loop-allowed.statements c.in_ok-next.next c.loop-allowed.rest.now c.in_ok-next.after.now _
    (statement_shortens c.args.allowed c.args.source.text.now c.args.room)
    (sym c.begins_statement.ensures ∙ c.loop-allowed-test.true) c.in_ok-next.ensures c.loop-allowed.invariant)
