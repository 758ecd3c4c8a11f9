use Rattle.std.proofs.Common.{◌≡◌, map, take}
use Rattle.task_ast.specs.View.{plain_stmt}
use Rattle.task_code.specs.Lowering.{deed_in}
use Rattle.task_code.specs.View.{plain_deeds}
use Rattle.task_code.specs.inner.Scopes.{scope_here}
use Rattle.task_code.proofs.statements.+deed.Given as goal

abbrev pub invariant-lower_arm-loop-s : goal.invariant-lower_arm-loop-s
invariant-lower_arm-loop-s l = plain_deeds l.deeds ≡ map (λ st. deed_in (scope_here l.scope) (plain_stmt st)) (take l.s-index l.block)
