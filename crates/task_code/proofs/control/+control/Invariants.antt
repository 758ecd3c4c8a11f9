use Rattle.std.proofs.Common.{◌≡◌, ◌++◌, drop}
use Rattle.task_ast.specs.View.{plain_block}
use Rattle.task_code.specs.Lowering.{block_code}
use Rattle.task_code.specs.View.{plain_instrs}
use Rattle.task_code.specs.inner.Scopes.{scope_here}
use Rattle.task_code.proofs.control.+control.Given as goal

abbrev pub invariant-lower_block-loop-s : goal.invariant-lower_block-loop-s
invariant-lower_block-loop-s l =
    plain_instrs l.code ++ block_code (scope_here l.scope) (plain_block (drop l.s-index l.block))
    ≡ plain_instrs l.fn.code ++ block_code (scope_here l.scope) (plain_block l.block)
