use Rattle.task_ast.specs.Plain.{tree_machine}
use Rattle.task_ast.proofs.Positions.{forked_is}
use Rattle.task_ast.proofs.position_laws.threads_law.Goals as goal

pub returns : goal.returns
returns c = λ program inputs limits. forked_is (tree_machine program inputs limits) program inputs limits
