use Rattle.task_ast.proofs.Writes.{writes_rise}
use Rattle.task_ast.proofs.WholeFolds.{undamaged, fold_is}
use Rattle.task_ast.proofs.laws.fold_laws.Goals as goal

pub returns : goal.returns
returns c = record { writes = writes_rise; damage = undamaged; whole = fold_is }
