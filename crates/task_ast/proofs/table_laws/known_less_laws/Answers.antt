use Rattle.task_ast.proofs.LessTurns.{turn_alike}
use Rattle.task_ast.proofs.LessIssues.{next_alike}
use Rattle.task_ast.proofs.table_laws.known_less_laws.Goals as goal

pub returns : goal.returns
returns c = record { turn = turn_alike; next = next_alike }
