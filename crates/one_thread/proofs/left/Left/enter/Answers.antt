use Rattle.std.proofs.Common.{ap, rules, ◌++◌}
use Rattle.task_ast.specs.View.{plain_stmts}
use Rattle.one_thread.proofs.Lefts.{around-more}
use Rattle.one_thread.proofs.left.Left.enter.Goals as goal

pub returns : goal.returns
returns c =
    ap (λ l. plain_stmts c.args.block.now ++ l)
    (around-more c.args.self.now.around.items c.push.new.self.items c.args.self.now.present (search rules))
