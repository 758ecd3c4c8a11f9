use Rattle.std.proofs.Common.{refl}
use Rattle.task_ast.proofs.Views.{expr_Rows}
use Rattle.task_parser.specs.inner.ExpressionReaders.{read_rows}
use Rattle.task_parser.proofs.expressions.rows.Goals as goal

pub returns : goal.returns
unfolding read_rows
returns c =
    rw (
      c.in_ok-rest.ensures,
      c.in_ok-rest-2.ensures,
      c.in_ok-token.ensures,
      c.in_ok-rest-3.ensures,
      expr_Rows c.in_ok-name.field-0,
      c.in_ok-name.ensures,
    ) refl
