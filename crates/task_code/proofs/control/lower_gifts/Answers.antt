use Rattle.std.proofs.Common.{◌≡◌, [], ◌++◌, drop, append-nil, ap, sym, ◌∙◌, arith}
use Rattle.std.proofs.lemmas.List.{drop_all}
use Rattle.task_ast.specs.View.{plain_exprs}
use Rattle.task_code.specs.Lowering.{gifts}
use Rattle.task_code.specs.View.{plain_gifts}
use Rattle.task_code.specs.inner.Scopes.{scope_here}
use Rattle.task_code.proofs.Forks.{no_gifts}
use Rattle.task_code.proofs.control.lower_gifts.Goals as goal

pub returns : goal.returns
returns c =
    let s = scope_here c.args.scope.now in
    let left = drop c.loop-i.i c.args.params.now in
    let all : drop c.loop-i.i c.args.es.now ≡ [] = drop_all c.loop-i.i c.args.es.now (omega arith) in
    sym (append-nil (plain_gifts c.loop-i.made)) ∙ ap (λ l. plain_gifts c.loop-i.made ++ l) (sym (no_gifts s c.args.registers.now left))
    ∙ ap (λ l. plain_gifts c.loop-i.made ++ gifts s c.args.registers.now left (plain_exprs l)) (sym all) ∙ c.loop-i.invariant
