use Rattle.std.proofs.Common.{◌≡◌, ◌++◌, drop}
use Rattle.task_ast.specs.View.{plain_exprs}
use Rattle.task_code.specs.Lowering.{control_calcs}
use Rattle.task_code.specs.View.{plain_calcs}
use Rattle.task_code.specs.inner.Scopes.{scope_here}
use Rattle.task_code.proofs.control.lower_controls.Given as goal

abbrev pub invariant-loop-i : goal.invariant-loop-i
invariant-loop-i l =
    plain_calcs l.calcs ++ control_calcs (scope_here l.scope) (drop l.i l.params) (plain_exprs (drop l.i l.es))
    ≡ control_calcs (scope_here l.scope) l.params (plain_exprs l.es)
