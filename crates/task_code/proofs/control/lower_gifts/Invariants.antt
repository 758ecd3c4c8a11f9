use Rattle.std.proofs.Common.{◌≡◌, ◌++◌, drop}
use Rattle.task_ast.specs.View.{plain_exprs}
use Rattle.task_code.specs.Lowering.{gifts}
use Rattle.task_code.specs.View.{plain_gifts}
use Rattle.task_code.specs.inner.Scopes.{scope_here}
use Rattle.task_code.proofs.control.lower_gifts.Given as goal

abbrev pub invariant-loop-i : goal.invariant-loop-i
invariant-loop-i l =
    plain_gifts l.made ++ gifts (scope_here l.scope) l.registers (drop l.i l.params) (plain_exprs (drop l.i l.es))
    ≡ gifts (scope_here l.scope) l.registers l.params (plain_exprs l.es)
