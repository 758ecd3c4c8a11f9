use Rattle.task_ast.proofs.Turns.{next_issue_step}
use Rattle.task_ast.proofs.laws.turn_law.Goals as goal

pub returns : goal.returns
returns c = next_issue_step
