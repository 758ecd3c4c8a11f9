use Rattle.std.proofs.Common.{refl}
use Rattle.task_ast.proofs.Views.{stmt_At, what_Write}
use Rattle.task_parser.specs.inner.StatementReaders.{read_writing}
use Rattle.task_parser.proofs.simple_statements.writing.Goals as goal

pub returns : goal.returns
unfolding read_writing
returns c =
    rw (
      c.in_ok-word.ensures,
      c.in-Ok.ensures,
      c.in-Ok-past.ensures,
      stmt_At,
      what_Write,
    ) refl
