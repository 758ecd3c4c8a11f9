use Rattle.std.proofs.Common.{◌∙◌}
use Rattle.task_ast.specs.View.{plain_expr}
use Rattle.task_ast.proofs.Terms.{value_is}
use Rattle.run_counts.proofs.counting.CountingReckon.of_data.Goals as goal

pub returns-then-not-exact : goal.returns-then-not-exact
returns-then-not-exact c =
    c.reckon_data-value.ensures.value ∙ value_is c.args.names.now c.args.registers.now (plain_expr c.args.e.now) c.args.env.now

pub returns-else-not-exact : goal.returns-else-not-exact
returns-else-not-exact c =
    c.reckon_data-value.ensures.value ∙ value_is c.args.names.now c.args.registers.now (plain_expr c.args.e.now) c.args.env.now
