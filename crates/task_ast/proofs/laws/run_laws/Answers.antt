use Rattle.task_ast.proofs.Runs.{run-move, run-inside, order-is, before-is, run-end}
use Rattle.task_ast.proofs.laws.run_laws.Goals as goal

pub returns : goal.returns
returns c = record { moves = run-move; inside = run-inside; order = order-is; before = before-is; end = run-end }
