use Rattle.std.proofs.Common.{◌≡◌, take}
use Rattle.task_ast.specs.View.{plain_exprs}
use Rattle.task_code.specs.Lowering.{calcs}
use Rattle.task_code.specs.View.{plain_calcs}
use Rattle.task_code.specs.inner.Scopes.{scope_here}
use Rattle.task_code.proofs.expressions.lower_exprs.Given as goal

abbrev pub invariant-loop-e : goal.invariant-loop-e
invariant-loop-e l = plain_calcs l.all ≡ calcs (scope_here l.scope) (plain_exprs (take l.e-index l.es))
