use Rattle.task_ast.proofs.Terms.{value_is}
use Rattle.task_ast.proofs.laws.value_law.Goals as goal

pub returns : goal.returns
returns c = value_is
