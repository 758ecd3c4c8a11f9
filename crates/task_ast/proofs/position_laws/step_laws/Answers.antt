use Rattle.task_ast.specs.Plain.{tree_machine}
use Rattle.task_ast.proofs.Positions.{step_is, plain_stands, left_is}
use Rattle.task_ast.proofs.position_laws.step_laws.Goals as goal

pub returns : goal.returns
returns c = record {
  step = λ program inputs limits. step_is (tree_machine program inputs limits) program inputs limits;
  counts = λ program inputs limits p l.
      let stands = plain_stands (tree_machine program inputs limits) program inputs limits p l in
      record { limit = stands.limit; issued = stands.issued; points = stands.points; lasts = stands.lasts };
  left = λ program inputs limits. left_is (tree_machine program inputs limits) program inputs limits;
}
