use Rattle.task_ast.specs.Plain.{move}
use Rattle.task_ast.proofs.Repeats.{steps_prefix, step_at}
use Rattle.task_ast.proofs.laws.order_laws.Goals as goal

pub returns : goal.returns
returns c = record {
  prefix = λ program inputs limits. steps_prefix (move program inputs limits);
  position = λ program inputs limits. step_at (move program inputs limits);
}
