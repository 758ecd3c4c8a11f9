use Rattle.std.proofs.Common.{refl}
use Rattle.task_ast.proofs.Views.{stmt_At, what_SetReg}
use Rattle.task_parser.specs.inner.StatementReaders.{read_set_reg}
use Rattle.task_parser.proofs.simple_statements.set_register.Goals as goal

pub returns : goal.returns
unfolding read_set_reg
returns c =
    rw (
      c.in_ok-variable.ensures,
      stmt_At,
      what_SetReg,
      c.in-Ok.ensures,
    ) refl
