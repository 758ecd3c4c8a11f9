use Rattle.task_ast.specs.Plain.{tree_machine}
use Rattle.task_ast.proofs.Positions.{fold_below, lines_are}
use Rattle.task_ast.proofs.position_laws.fold_below_laws.Goals as goal

pub returns : goal.returns
returns c = record {
  fold = λ program inputs limits. fold_below (tree_machine program inputs limits) program inputs limits;
  lines = λ program inputs limits. lines_are (tree_machine program inputs limits) program inputs limits;
}
