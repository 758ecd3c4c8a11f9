use Rattle.std.proofs.Common.{◌∙◌}
use Rattle.task_ast.specs.View.{plain_expr}
use Rattle.task_ast.proofs.Terms.{value_is}
use Rattle.one_thread.proofs.data.data_value.Goals as goal

pub returns : goal.returns
returns c = c.value_in.ensures ∙ value_is c.args.names.now c.args.registers.now (plain_expr c.args.e.now) c.args.env.now
