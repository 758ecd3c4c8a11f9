use Rattle.std.proofs.Common.{refl}
use Rattle.task_ast.proofs.Views.{stmt_At, what_Settle}
use Rattle.task_parser.specs.inner.StatementReaders.{read_settling}
use Rattle.task_parser.proofs.simple_statements.settling.Goals as goal

pub returns : goal.returns
unfolding read_settling
returns c =
    rw (
      c.in_ok-word.ensures,
      c.in_ok-from.ensures,
      c.in_ok-rest.ensures,
      c.in_ok-into.ensures,
      c.in_ok-rest-2.ensures,
      stmt_At,
      what_Settle,
      c.in_ok-register.ensures,
      c.in_ok-name.ensures,
    ) refl
