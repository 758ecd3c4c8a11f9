use Rattle.task_ast.proofs.Finishes as Finishes
use Rattle.task_ast.proofs.table_laws.finished_law.Goals as goal

pub returns : goal.returns
returns c = Finishes.finished_law
