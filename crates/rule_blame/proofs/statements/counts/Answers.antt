use Rattle.std.proofs.Common.{◌≡◌, ◌∙◌, refl, ap, sym, subst}
use Rattle.std.proofs.lemmas.List.{length-map}
use Rattle.task_ast.specs.meaning.Tree as plain
use Rattle.task_ast.specs.View.{plain_expr, plain_what, plain_task}
use Rattle.task_ast.proofs.Views.{what_Fork}
use Rattle.rule_blame.specs.Blames.{MisCounts}
use Rattle.rule_blame.specs.Views.{scope_of}
use Rattle.rule_blame.proofs.statements.counts.Goals as goal

pub returns : goal.returns
returns c = λ line held.
    let fork = ap plain_what c.in-Fork.is ∙ what_Fork c.in-Fork.task c.in-Fork.arguments c.in-Fork.field-2 in
    let named = rw c.as_slice.ensures at c.in_ok-callee.ensures in
    subst (λ (w : plain.What). MisCounts (scope_of c.args.scope) w c.in-Fork.task c.len.result c.len-2.result) (sym fork) (
      plain_task c.in_ok-callee.callee.now,
      refl,
      sym named,
      c.len.ensures,
      c.len-2.ensures ∙ sym (length-map c.in-Fork.arguments plain_expr),
      c.if-takes-gets.false,
    )
