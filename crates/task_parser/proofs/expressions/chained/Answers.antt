use Rattle.std.proofs.Common.{refl}
use Rattle.task_ast.specs.View.{plain_expr}
use Rattle.task_ast.proofs.Views.{expr_Chain}
use Rattle.task_parser.proofs.Levels.{chain_more}
use Rattle.task_parser.proofs.expressions.chained.Goals as goal

pub returns : goal.returns
returns c =
    rw (
      expr_Chain c.in_ok-first.first c.args.others,
      c.in_ok-first.ensures.ok,
      chain_more (plain_expr c.args.first) c.args.others c.is_empty.result c.is_empty.ensures c.if-is_empty.false,
    ) refl
