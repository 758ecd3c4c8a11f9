use Rattle.std.proofs.Common.{refl}
use Rattle.task_ast.proofs.Views.{stmt_At, what_SetCtl}
use Rattle.task_parser.specs.inner.StatementReaders.{read_set_ctl}
use Rattle.task_parser.proofs.simple_statements.set_ctl.Goals as goal

pub returns : goal.returns
unfolding read_set_ctl
returns c =
    rw (c.in_ok-variable.ensures, stmt_At, what_SetCtl, c.in-Ok.ensures) refl
