use Rattle.std.proofs.Common.{◌∙◌, take, take_all, ap, sym, arith, rules}
use Rattle.task_ast.specs.View.{plain_stmt, plain_block}
use Rattle.task_ast.proofs.Views.{stmt_At}
use Rattle.task_code.specs.Instructions.{deeds}
use Rattle.task_code.specs.Lowering.{deed_in, arm}
use Rattle.task_code.specs.View.{plain_deed}
use Rattle.task_code.specs.inner.Scopes.{scope_here}
use Rattle.task_code.proofs.Rows.{arm_made, one_more}
use Rattle.task_code.proofs.statements.+deed.Goals as goal

pub lower_arm-returns : goal.lower_arm-returns
lower_arm-returns t c =
    let s = scope_here c.args.scope.now in
    ap deeds c.loop-s.invariant ∙ arm_made s (take c.loop-s.s-index c.args.block.now)
    ∙ ap (λ l. arm s (plain_block l)) (take_all c.loop-s.s-index c.args.block.now (omega arith))

pub lower_arm-loop-s-preserved : goal.lower_arm-loop-s-preserved
lower_arm-loop-s-preserved t c =
    let s = scope_here c.args.scope.now in
    one_more plain_deed (λ st. deed_in s (plain_stmt st)) c.loop-s.deeds c.push.new.self c.args.block.now c.loop-s.s-index
    c.in_ok-lower_deed.field-0 c.s-item.result (search rules) (search rules) (search rules)
    (c.in_ok-lower_deed.ensures ∙ ap (deed_in s) (sym (stmt_At c.s-item.result))) c.loop-s.invariant
