use Rattle.task_ast.specs.Plain.{tree_machine}
use Rattle.task_ast.proofs.Standings.{own_stands, agrees, turns_tell, front_alike, learn_stands}
use Rattle.task_ast.proofs.table_laws.standing_laws.Goals as goal

pub returns : goal.returns
returns c = record {
  own = own_stands;
  agrees = λ program inputs limits. agrees (tree_machine program inputs limits) program inputs limits;
  turns = λ program inputs limits. turns_tell (tree_machine program inputs limits) program inputs limits;
  front = λ program inputs limits. front_alike (tree_machine program inputs limits) program inputs limits;
  learn = λ program inputs limits. learn_stands (tree_machine program inputs limits) program inputs limits;
}
