use Rattle.task_ast.proofs.TurnLaws.{ahead_law, pass_law, issue_law}
use Rattle.task_ast.proofs.table_laws.turn_laws.Goals as goal

pub returns : goal.returns
returns c = record { ahead = ahead_law; pass = pass_law; issue = issue_law }
