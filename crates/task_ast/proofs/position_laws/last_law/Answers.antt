use Rattle.task_ast.specs.Plain.{tree_machine}
use Rattle.task_ast.proofs.Positions.{last_is}
use Rattle.task_ast.proofs.position_laws.last_law.Goals as goal

pub returns : goal.returns
returns c = λ program inputs limits. last_is (tree_machine program inputs limits) program inputs limits
