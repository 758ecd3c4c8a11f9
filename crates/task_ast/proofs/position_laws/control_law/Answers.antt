use Rattle.task_ast.proofs.SameRuns.{same_control}
use Rattle.task_ast.proofs.position_laws.control_law.Goals as goal

pub returns : goal.returns
returns c = same_control
