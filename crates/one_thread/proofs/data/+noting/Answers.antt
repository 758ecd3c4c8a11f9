use Rattle.std.proofs.Common.{◌+◌, ◌∙◌, drop, ap, sym, subst, rules, List}
use Rattle.std.proofs.Math.ListN.{drop_of_length-le}
use Rattle.task_ast.specs.declared.tree.Stmt.{Stmt}
use Rattle.task_ast.specs.meaning.Tree as plain
use Rattle.task_ast.specs.meaning.Action.{of_registers}
use Rattle.task_ast.specs.meaning.Footprint.{naming, arm_naming}
use Rattle.task_ast.specs.meaning.Control.{action, arm}
use Rattle.task_ast.specs.View.{plain_expr, plain_what, plain_block}
use Rattle.task_ast.proofs.Views.{stmt_At, what_When}
use Rattle.one_thread.specs.inner.Working.{setting_in, ArmNotes}
use Rattle.task_ast.proofs.Arms.{from-here, naming-in-order, Ahead, ahead_on, ahead_start, ahead_end}
use Rattle.one_thread.proofs.Naming.{noted, notes-choice}
use Rattle.one_thread.proofs.data.+noting.Goals as goal

pub note-returns-in_ok-note_all-in-When : goal.note-returns-in_ok-note_all-in-When
note-returns-in_ok-note_all-in-When t c = noted c.note_all-in-When.result (λ notes registers a is.
    let s = setting_in c.args.program.now.program c.args.env.now in
    let env = c.args.env.now in
    let before = c.args.named.now in
    let between = c.note_all.new.named in
    let after = c.note_all-in-When.new.named in
    let one = arm s registers (plain_block c.in-When.first) env in
    let other = arm s registers (plain_block c.in-When.second) env in
    let first : ArmNotes one before between = search (rules, c.in_ok-note_all-in-When.ensures registers) in
    let second : ArmNotes other between after = search (rules, notes registers) in
    let what = ap plain_what c.in-When.is ∙ what_When c.in-When.field-0 c.in-When.first c.in-When.second in
    notes-choice (of_registers registers (plain_expr c.in-When.field-0) env) one other before between after first second a
    (sym (ap (λ w. action s registers w env) what) ∙ is))
    c.note_all-in-When.ensures

pub note_all-loop-stmt-init : goal.note_all-loop-stmt-init
note_all-loop-stmt-init t c = λ registers.
    let whole = arm (setting_in c.args.program.now.program c.args.env.now) registers (plain_block c.args.block.now) c.args.env.now in
    ahead_start naming arm_naming naming-in-order whole c.args.named.now

pub note_all-loop-stmt-preserved : goal.note_all-loop-stmt-preserved
note_all-loop-stmt-preserved t c = λ registers.
    let s = setting_in c.args.program.now.program c.args.env.now in
    let env = c.args.env.now in
    let whole = arm s registers (plain_block c.args.block.now) env in
    let block = c.args.block.now in
    let at = c.loop-stmt.stmt-index in
    let behind = plain_block (drop (at + 1) block) in
    let here = subst (λ o. Ahead arm_naming whole o c.loop-stmt.named c.args.named.now)
    (from-here (λ (l : List Stmt). arm s registers (plain_block l) env) block at c.stmt-item.result c.loop-stmt-test.true c.stmt-item.is
    ∙ ap (λ st. arm s registers (plain.Then st behind) env) (stmt_At c.stmt-item.result)) (c.loop-stmt.invariant registers) in
    ahead_on naming arm_naming naming-in-order whole (action s registers (plain_what c.stmt-item.result.what) env)
    (arm s registers behind env)
    c.loop-stmt.named c.note.new.named c.args.named.now (c.in_ok-note.ensures registers) here

pub note_all-returns : goal.note_all-returns
note_all-returns t c = λ registers a is.
    let s = setting_in c.args.program.now.program c.args.env.now in
    let whole = arm s registers (plain_block c.args.block.now) c.args.env.now in
    ahead_end naming arm_naming naming-in-order whole c.loop-stmt.named c.args.named.now
    (subst (λ o. Ahead arm_naming whole o c.loop-stmt.named c.args.named.now)
    (ap (λ (l : List Stmt). arm s registers (plain_block l) c.args.env.now) (drop_of_length-le c.args.block.now c.loop-stmt-test.false))
    (c.loop-stmt.invariant registers)) a is
