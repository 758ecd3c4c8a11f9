use Rattle.std.proofs.Common.{◌≡◌, map, take}
use Rattle.task_ast.specs.View.{plain_members}
use Rattle.task_code.specs.Lowering.{calc}
use Rattle.task_code.specs.View as view
use Rattle.task_code.specs.inner.Scopes.{scope_here}
use Rattle.task_code.proofs.expressions.+calculation.Given as goal

abbrev pub invariant-lower_members-loop-other : goal.invariant-lower_members-loop-other
invariant-lower_members-loop-other l =
    view.plain_members l.members ≡ map (λ m. (m.0, calc (scope_here l.scope) m.1)) (plain_members (take l.other-index l.others))
