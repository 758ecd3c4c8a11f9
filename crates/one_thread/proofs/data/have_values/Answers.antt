use Rattle.std.proofs.Common.{◌+◌, ◌∙◌, drop, map, ap, sym, List}
use Rattle.std.specs.Prelude.{is_some}
use Rattle.task_ast.specs.declared.tree.Expr.{Expr}
use Rattle.task_ast.specs.meaning.Action.{of_registers}
use Rattle.task_ast.specs.meaning.Control.{all_of}
use Rattle.task_ast.specs.View.{plain_expr, plain_exprs}
use Rattle.std.proofs.Math.ListN.{drop_of_length-le}
use Rattle.task_ast.proofs.Arms.{from-here}
use Rattle.one_thread.proofs.Fitting.{all_some, not_all_some}
use Rattle.one_thread.proofs.data.have_values.Goals as goal

pub returns-then-not-has_value : goal.returns-then-not-has_value
returns-then-not-has_value c = λ registers.
    not_all_some (of_registers registers (plain_expr c.e-item.result) c.args.env.now)
    (map (λ e. of_registers registers e c.args.env.now) (plain_exprs (drop (c.loop-e.e-index + 1) c.args.es.now)))
    (sym (c.if-not-has_value.ensures registers))
    ∙ sym (from-here (λ (l : List Expr). is_some (all_of (map (λ e. of_registers registers e c.args.env.now) (plain_exprs l)))) c.args.es.now
    c.loop-e.e-index c.e-item.result c.loop-e-test.true c.e-item.is) ∙ c.loop-e.invariant registers

pub loop-e-preserved : goal.loop-e-preserved
loop-e-preserved c = λ registers.
    all_some (of_registers registers (plain_expr c.e-item.result) c.args.env.now)
    (map (λ e. of_registers registers e c.args.env.now) (plain_exprs (drop (c.loop-e.e-index + 1) c.args.es.now)))
    (sym (c.if-not-has_value.ensures registers))
    ∙ sym (from-here (λ (l : List Expr). is_some (all_of (map (λ e. of_registers registers e c.args.env.now) (plain_exprs l)))) c.args.es.now
    c.loop-e.e-index c.e-item.result c.loop-e-test.true c.e-item.is) ∙ c.loop-e.invariant registers

pub returns : goal.returns
returns c = λ registers.
    sym (ap (λ (l : List Expr). is_some (all_of (map (λ e. of_registers registers e c.args.env.now) (plain_exprs l))))
    (drop_of_length-le c.args.es.now c.loop-e-test.false)) ∙ c.loop-e.invariant registers
