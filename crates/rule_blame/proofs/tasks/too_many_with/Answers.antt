use Rattle.std.proofs.Common.{refl, take, arith, length-append}
use Rattle.task_ast.specs.meaning.Names.{declared_in}
use Rattle.rule_blame.proofs.tasks.too_many_with.Goals as goal

pub returns : goal.returns
returns c = λ line.
    let counted = rw c.as_slice.ensures at c.in_ok-count.ensures in (
      c.args.lines,
      refl,
      omega (arith, length-append c.args.task.now.params (declared_in (take c.args.lines c.args.task.now.vars)), counted, c.in_ok-count-2.ensures),
      c.if-count.false,
    )
