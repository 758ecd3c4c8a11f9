use Rattle.std.proofs.Common.{◌≡◌, ◌+◌, ◌∙◌, drop, map, ap, sym, rules, true, false, List}
use Rattle.std.specs.Prelude.{is_some}
use Rattle.std.proofs.Math.ListN.{drop_of_length-le}
use Rattle.task_ast.specs.declared.tree.Stmt.{Stmt}
use Rattle.task_ast.specs.meaning.Tree as plain
use Rattle.task_ast.specs.meaning.Action.{of_registers}
use Rattle.task_ast.specs.meaning.Control.{action, arm, all_of}
use Rattle.task_ast.specs.View.{plain_expr, plain_exprs, plain_what, plain_block}
use Rattle.task_ast.proofs.Views.{stmt_At, what_Print, what_When}
use Rattle.one_thread.specs.inner.Working.{setting_in}
use Rattle.task_ast.proofs.Arms.{from-here, arm_some, not_arm_some, chosen_some, not_chosen_some, say_some}
use Rattle.one_thread.proofs.data.+fitting.Goals as goal

pub all_fit-returns-then-not-fits : goal.all_fit-returns-then-not-fits
all_fit-returns-then-not-fits t c = λ registers.
    let s = setting_in c.args.program.now.program c.args.env.now in
    let here : is_some (action s registers (plain_what c.stmt-item.result.what) c.args.env.now) ≡ false =
    sym (c.if-not-fits.ensures registers) in
    not_arm_some (action s registers (plain_what c.stmt-item.result.what) c.args.env.now)
    (arm s registers (plain_block (drop (c.loop-stmt.stmt-index + 1) c.args.block.now)) c.args.env.now) here
    ∙ sym (from-here (λ (l : List Stmt). is_some (arm s registers (plain_block l) c.args.env.now)) c.args.block.now c.loop-stmt.stmt-index
    c.stmt-item.result c.loop-stmt-test.true c.stmt-item.is
    ∙ ap (λ st. is_some (arm s registers (plain.Then st (plain_block (drop (c.loop-stmt.stmt-index + 1) c.args.block.now))) c.args.env.now))
    (stmt_At c.stmt-item.result))
    ∙ c.loop-stmt.invariant registers

pub all_fit-loop-stmt-preserved : goal.all_fit-loop-stmt-preserved
all_fit-loop-stmt-preserved t c = λ registers.
    let s = setting_in c.args.program.now.program c.args.env.now in
    let here : is_some (action s registers (plain_what c.stmt-item.result.what) c.args.env.now) ≡ true =
    sym (c.if-not-fits.ensures registers) in
    arm_some (action s registers (plain_what c.stmt-item.result.what) c.args.env.now)
    (arm s registers (plain_block (drop (c.loop-stmt.stmt-index + 1) c.args.block.now)) c.args.env.now) here
    ∙ sym (from-here (λ (l : List Stmt). is_some (arm s registers (plain_block l) c.args.env.now)) c.args.block.now c.loop-stmt.stmt-index
    c.stmt-item.result c.loop-stmt-test.true c.stmt-item.is
    ∙ ap (λ st. is_some (arm s registers (plain.Then st (plain_block (drop (c.loop-stmt.stmt-index + 1) c.args.block.now))) c.args.env.now))
    (stmt_At c.stmt-item.result))
    ∙ c.loop-stmt.invariant registers

pub all_fit-returns : goal.all_fit-returns
all_fit-returns t c = λ registers.
    let s = setting_in c.args.program.now.program c.args.env.now in
    sym (ap (λ (l : List Stmt). is_some (arm s registers (plain_block l) c.args.env.now))
    (drop_of_length-le c.args.block.now c.loop-stmt-test.false)) ∙ c.loop-stmt.invariant registers

pub fits-returns-in-Print : goal.fits-returns-in-Print
fits-returns-in-Print t c = λ registers.
    let s = setting_in c.args.program.now.program c.args.env.now in
    let have : c.have_values.result ≡ is_some (all_of (map (λ e. of_registers registers e c.args.env.now) (plain_exprs c.in-Print.es))) =
    search (rules, c.have_values.ensures registers) in
    have ∙ say_some (all_of (map (λ e. of_registers registers e c.args.env.now) (plain_exprs c.in-Print.es)))
    ∙ sym (ap (λ w. is_some (action s registers w c.args.env.now)) (ap plain_what c.in-Print.is ∙ what_Print c.in-Print.es))

pub fits-returns-then-all_fit : goal.fits-returns-then-all_fit
fits-returns-then-all_fit t c = λ registers.
    let s = setting_in c.args.program.now.program c.args.env.now in
    let env = c.args.env.now in
    let there : is_some (of_registers registers (plain_expr c.in-When.e) env) ≡ true = search (rules, c.if-has_value-2.ensures registers) in
    let first : is_some (arm s registers (plain_block c.in-When.first) env) ≡ true = search (rules, c.if-all_fit.ensures registers) in
    let second : c.all_fit-then-all_fit.result ≡ is_some (arm s registers (plain_block c.in-When.second) env) =
    search (rules, c.all_fit-then-all_fit.ensures registers) in
    second ∙ chosen_some (of_registers registers (plain_expr c.in-When.e) env) (arm s registers (plain_block c.in-When.first) env)
    (arm s registers (plain_block c.in-When.second) env) there first
    ∙ sym (ap (λ w. is_some (action s registers w env))
    (ap plain_what c.in-When.is ∙ what_When c.in-When.e c.in-When.first c.in-When.second))

pub fits-returns-else-all_fit : goal.fits-returns-else-all_fit
fits-returns-else-all_fit t c = λ registers.
    let s = setting_in c.args.program.now.program c.args.env.now in
    let env = c.args.env.now in
    let there : is_some (of_registers registers (plain_expr c.in-When.e) env) ≡ true = search (rules, c.if-has_value-2.ensures registers) in
    let first : is_some (arm s registers (plain_block c.in-When.first) env) ≡ false = search (rules, c.if-all_fit.ensures registers) in
    not_chosen_some (of_registers registers (plain_expr c.in-When.e) env) (arm s registers (plain_block c.in-When.first) env)
    (arm s registers (plain_block c.in-When.second) env) there first
    ∙ sym (ap (λ w. is_some (action s registers w env))
    (ap plain_what c.in-When.is ∙ what_When c.in-When.e c.in-When.first c.in-When.second))
