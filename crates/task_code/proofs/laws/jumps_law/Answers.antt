use Rattle.task_code.specs.Lowering.{scope_of}
use Rattle.task_code.proofs.Inside.{block_inside}
use Rattle.task_code.proofs.laws.jumps_law.Goals as goal

pub returns : goal.returns
returns c = λ program task. block_inside (scope_of program task) task.body
