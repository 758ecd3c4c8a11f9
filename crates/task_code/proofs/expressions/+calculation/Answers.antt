use Rattle.std.proofs.Common.{◌∙◌, take, take_all, ap, ap₂, sym, arith}
use Rattle.task_ast.specs.meaning.Tree.{links}
use Rattle.task_ast.specs.View.{plain_expr, plain_members, plain_links}
use Rattle.task_ast.proofs.Views.{expr_Ctl, expr_Reg, expr_Me, expr_Rows, expr_Cell, expr_Neg, expr_Not, expr_Chain}
use Rattle.task_code.specs.Instructions.{operands, Ctl, Neg, Not, Chain}
use Rattle.task_code.specs.Lowering as lowering
use Rattle.task_code.specs.Lowering.{calc, operands_of}
use Rattle.task_code.specs.View.{plain_calc}
use Rattle.task_code.specs.inner.Scopes.{scope_here}
use Rattle.task_code.proofs.Rows.{members_made}
use Rattle.task_code.proofs.Views.{calc_Ctl, calc_Me, calc_Neg, calc_Not, calc_Chain}
use Rattle.task_code.proofs.expressions.+calculation.Goals as goal

pub lower_members-returns : goal.lower_members-returns
lower_members-returns t c =
    let s = scope_here c.args.scope.now in
    ap operands c.loop-other.invariant ∙ members_made s (plain_members (take c.loop-other.other-index c.args.others.now))
    ∙ ap (λ l. operands_of s (links (plain_members l))) (take_all c.loop-other.other-index c.args.others.now (omega arith))

pub lower_expr-returns-in-Ctl : goal.lower_expr-returns-in-Ctl
lower_expr-returns-in-Ctl t c =
    let s = scope_here c.args.scope.now in
    calc_Ctl _ ∙ ap Ctl c.control.ensures
    ∙ sym (ap (calc s) (ap plain_expr c.in-Ctl.is ∙ expr_Ctl c.in-Ctl.x))

pub lower_expr-returns-in-Reg : goal.lower_expr-returns-in-Reg
lower_expr-returns-in-Reg t c =
    let s = scope_here c.args.scope.now in
    c.register_calc.ensures ∙ ap lowering.register_calc c.register_place.ensures
    ∙ sym (ap (calc s) (ap plain_expr c.in-Reg.is ∙ expr_Reg c.in-Reg.x))

pub lower_expr-returns-in-Me : goal.lower_expr-returns-in-Me
lower_expr-returns-in-Me t c =
    let s = scope_here c.args.scope.now in
    calc_Me
    ∙ sym (ap (calc s) (ap plain_expr c.in-Me.is ∙ expr_Me))

pub lower_expr-returns-in-Rows : goal.lower_expr-returns-in-Rows
lower_expr-returns-in-Rows t c =
    let s = scope_here c.args.scope.now in
    c.rows_calc.ensures ∙ ap lowering.rows_calc c.feed_place.ensures
    ∙ sym (ap (calc s) (ap plain_expr c.in-Rows.is ∙ expr_Rows c.in-Rows.f))

pub lower_expr-returns-in_ok-field-in-Cell : goal.lower_expr-returns-in_ok-field-in-Cell
lower_expr-returns-in_ok-field-in-Cell t c =
    let s = scope_here c.args.scope.now in
    let row = c.in_ok-row-in-Cell.ensures ∙ ap (λ e. calc s (plain_expr e)) c.deref.ensures in
    let field = c.in_ok-field-in-Cell.ensures ∙ ap (λ e. calc s (plain_expr e)) c.deref-in-Cell.ensures in
    c.cell_calc.ensures ∙ ap
    (λ f. lowering.cell_calc f (plain_calc c.in_ok-row-in-Cell.row.value) (plain_calc c.in_ok-field-in-Cell.field.value))
    c.feed_place-in-Cell.ensures
    ∙ ap₂ (lowering.cell_calc _) row field
    ∙ sym (ap (calc s) (ap plain_expr c.in-Cell.is ∙ expr_Cell c.in-Cell.f c.in-Cell.row c.in-Cell.field))

pub lower_expr-returns-in_ok-lower_boxed-in-Neg : goal.lower_expr-returns-in_ok-lower_boxed-in-Neg
lower_expr-returns-in_ok-lower_boxed-in-Neg t c =
    let s = scope_here c.args.scope.now in
    calc_Neg _ ∙ ap Neg (c.in_ok-lower_boxed-in-Neg.ensures ∙ ap (λ e. calc s (plain_expr e)) c.deref-in-Neg.ensures)
    ∙ sym (ap (calc s) (ap plain_expr c.in-Neg.is ∙ expr_Neg c.in-Neg.a))

pub lower_expr-returns-in_ok-lower_boxed-in-Not : goal.lower_expr-returns-in_ok-lower_boxed-in-Not
lower_expr-returns-in_ok-lower_boxed-in-Not t c =
    let s = scope_here c.args.scope.now in
    calc_Not _ ∙ ap Not (c.in_ok-lower_boxed-in-Not.ensures ∙ ap (λ e. calc s (plain_expr e)) c.deref-in-Not.ensures)
    ∙ sym (ap (calc s) (ap plain_expr c.in-Not.is ∙ expr_Not c.in-Not.a))

pub lower_expr-returns-in_ok-others-in-Chain : goal.lower_expr-returns-in_ok-others-in-Chain
lower_expr-returns-in_ok-others-in-Chain t c =
    let s = scope_here c.args.scope.now in
    let first = c.in_ok-first-in-Chain.ensures ∙ ap (λ e. calc s (plain_expr e)) c.deref-in-Chain.ensures in
    let others = c.in_ok-others-in-Chain.ensures ∙ ap (λ l. operands_of s (plain_links l)) c.as_slice.ensures in
    calc_Chain _ _ ∙ ap₂ Chain first others
    ∙ sym (ap (calc s) (ap plain_expr c.in-Chain.is ∙ expr_Chain c.in-Chain.first c.in-Chain.others))
