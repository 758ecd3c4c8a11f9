use Rattle.std.proofs.Common.{◌+◌, ◌∙◌, drop, map, ap, sym, subst, rules, List, SFits, w64}
use Rattle.std.proofs.lemmas.Int.{to_z-of_z}
use Rattle.std.proofs.Math.ListN.{drop_of_length-le}
use Rattle.task_ast.specs.declared.tree.Stmt.{Stmt}
use Rattle.task_ast.specs.meaning.Tree as plain
use Rattle.task_ast.specs.meaning.Action.{of_registers}
use Rattle.task_ast.specs.meaning.Control.{action, arm, all_of}
use Rattle.task_ast.specs.View.{plain_expr, plain_exprs, plain_what, plain_block}
use Rattle.task_ast.proofs.Views.{stmt_At, what_Print, what_When}
use Rattle.one_thread.specs.inner.Working.{setting_in, worked, arm_worked}
use Rattle.task_ast.proofs.Arms.{from-here, Ahead, ahead_on, ahead_end}
use Rattle.one_thread.proofs.Fitting.{work-in-order, said_ok, unsaid, block_works}
use Rattle.one_thread.proofs.data.+performing.Goals as goal

pub perform_all-loop-stmt-preserved : goal.perform_all-loop-stmt-preserved
perform_all-loop-stmt-preserved g t c = λ joined.
    let s = setting_in c.args.program.now.program c.args.env.now in
    let names = c.args.names.now in
    let env = c.args.env.now in
    let block = c.args.block.now in
    let at = c.loop-stmt.stmt-index in
    let whole = arm s names (plain_block block) env in
    let behind = plain_block (drop (at + 1) block) in
    let here = subst (λ o. Ahead (arm_worked joined) whole o c.loop-stmt.data c.args.data.now)
    (from-here (λ (l : List Stmt). arm s names (plain_block l) env) block at c.stmt-item.result c.loop-stmt-test.true c.stmt-item.is
    ∙ ap (λ st. arm s names (plain.Then st behind) env) (stmt_At c.stmt-item.result)) (c.loop-stmt.invariant joined) in
    ahead_on (worked joined) (arm_worked joined) (work-in-order joined) whole (action s names (plain_what c.stmt-item.result.what) env)
    (arm s names behind env) c.loop-stmt.data c.perform.new.data c.args.data.now (c.in_ok-perform.ensures joined) here

pub perform_all-returns : goal.perform_all-returns
perform_all-returns g t c = λ joined a is.
    let s = setting_in c.args.program.now.program c.args.env.now in
    let names = c.args.names.now in
    let env = c.args.env.now in
    let block = c.args.block.now in
    let whole = arm s names (plain_block block) env in
    ahead_end (worked joined) (arm_worked joined) (work-in-order joined) whole c.loop-stmt.data c.args.data.now
    (subst (λ o. Ahead (arm_worked joined) whole o c.loop-stmt.data c.args.data.now)
    (ap (λ (l : List Stmt). arm s names (plain_block l) env) (drop_of_length-le block c.loop-stmt-test.false))
    (c.loop-stmt.invariant joined)) a is

pub perform-returns-in-Some-2 : goal.perform-returns-in-Some-2
perform-returns-in-Some-2 g t c =
    let s = setting_in c.args.program.now.program c.args.env.now in
    let line = rw (c.in-Some-2.is, c.as_slice-in-Print.ensures, c.as_slice-in-Print-2.ensures) at c.in_ok-line-in-Print.ensures in
    said_ok c.push.result (all_of (map (λ e. of_registers c.args.names.now e c.args.env.now) (plain_exprs c.in-Print.es)))
    (action s c.args.names.now (plain_what c.args.what.now) c.args.env.now) c.args.data.now c.in-Some-2.line c.push.new.self
    (ap (λ w. action s c.args.names.now w c.args.env.now) (ap plain_what c.in-Print.is ∙ what_Print c.in-Print.es)) line c.push.ensures.ok

pub perform-returns-in-None : goal.perform-returns-in-None
perform-returns-in-None g t c = λ joined a is.
    let s = setting_in c.args.program.now.program c.args.env.now in
    let line = rw (c.in-None.is, c.as_slice-in-Print.ensures, c.as_slice-in-Print-2.ensures) at c.in_ok-line-in-Print.ensures in
    unsaid (all_of (map (λ e. of_registers c.args.names.now e c.args.env.now) (plain_exprs c.in-Print.es))) c.args.data.now
    c.args.data.now line joined a
    (sym (ap (λ w. action s c.args.names.now w c.args.env.now) (ap plain_what c.in-Print.is ∙ what_Print c.in-Print.es)) ∙ is)

pub perform-returns-in-Some-of_data-2 : goal.perform-returns-in-Some-of_data-2
perform-returns-in-Some-of_data-2 g t c =
    let s = setting_in c.args.program.now.program c.args.env.now in
    let names = c.args.names.now in
    let env = c.args.env.now in
    let v = c.in-Some-of_data-2.v in
    let fits : SFits w64 v = search rules in
    let value = rw c.as_slice-in-When.ensures at c.in-Some-of_data-2.ensures in
    let takes = rw (to_z-of_z w64 v fits, c.as_slice-in-Some-of_data-2.ensures, c.as_slice-in-Some-of_data-2-2.ensures) at c.taken-block.ensures in
    block_works c.perform_all.result (λ (l : List Stmt). arm s names (plain_block l) env) (of_registers names (plain_expr c.in-When.e) env)
    (action s names (plain_what c.args.what.now) env) c.in-When.first c.in-When.second c.taken-block.result.now c.args.data.now
    c.perform_all.new.data v
    (ap (λ w. action s names w env) (ap plain_what c.in-When.is ∙ what_When c.in-When.e c.in-When.first c.in-When.second))
    takes (sym value) c.perform_all.ensures
