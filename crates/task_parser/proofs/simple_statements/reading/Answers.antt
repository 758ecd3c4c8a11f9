use Rattle.std.proofs.Common.{refl}
use Rattle.task_ast.proofs.Views.{stmt_At, what_Read}
use Rattle.task_parser.specs.inner.StatementReaders.{read_reading}
use Rattle.task_parser.proofs.simple_statements.reading.Goals as goal

pub returns : goal.returns
unfolding read_reading
returns c =
    rw (
      c.in_ok-word.ensures,
      c.in-Ok.ensures,
      c.in-Ok-past.ensures,
      stmt_At,
      what_Read,
      c.in-Ok-register.ensures,
    ) refl
