use Rattle.std.proofs.Common.{refl}
use Rattle.task_ast.proofs.Views.{stmt_At, what_Fork}
use Rattle.task_parser.specs.inner.StatementReaders.{read_forking}
use Rattle.task_parser.proofs.simple_statements.forking.Goals as goal

pub returns : goal.returns
unfolding read_forking
returns c =
    rw (
      c.in_ok-word.ensures,
      c.in_ok-into.ensures,
      c.in-Ok.ensures,
      stmt_At,
      what_Fork,
    ) refl
