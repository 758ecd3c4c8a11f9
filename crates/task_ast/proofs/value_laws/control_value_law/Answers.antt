use Rattle.task_ast.proofs.Registers.{value-registers}
use Rattle.task_ast.proofs.value_laws.control_value_law.Goals as goal

pub returns : goal.returns
returns c = value-registers
