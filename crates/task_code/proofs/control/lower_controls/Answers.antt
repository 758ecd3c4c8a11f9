use Rattle.std.proofs.Common.{◌≡◌, [], ◌++◌, drop, append-nil, ap, sym, ◌∙◌, arith}
use Rattle.std.proofs.lemmas.List.{drop_all}
use Rattle.std.proofs.lemmas.Grind.{common_steps}
use Rattle.task_ast.specs.View.{plain_exprs}
use Rattle.task_code.specs.Lowering.{control_calcs}
use Rattle.task_code.specs.View.{plain_calcs}
use Rattle.task_code.specs.inner.Scopes.{scope_here}
use Rattle.task_code.proofs.Forks.{no_controls}
use Rattle.task_code.proofs.control.lower_controls.Goals as goal

pub returns : goal.returns
returns c =
    let s = scope_here c.args.scope.now in
    let left = drop c.loop-i.i c.args.params.now in
    let all : drop c.loop-i.i c.args.es.now ≡ [] = drop_all c.loop-i.i c.args.es.now (omega arith) in
    sym (append-nil (plain_calcs c.loop-i.calcs)) ∙ ap (λ l. plain_calcs c.loop-i.calcs ++ l) (sym (no_controls s left))
    ∙ ap (λ l. plain_calcs c.loop-i.calcs ++ control_calcs s left (plain_exprs l)) (sym all) ∙ c.loop-i.invariant

pub loop-i-preserved : goal.loop-i-preserved
loop-i-preserved c = grind (arith, common_steps)
