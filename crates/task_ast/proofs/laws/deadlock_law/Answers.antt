use Rattle.task_ast.proofs.Rounds.{rounds_kept, deadlock_is}
use Rattle.task_ast.proofs.laws.deadlock_law.Goals as goal

pub returns : goal.returns
returns c = λ table reached t next e. deadlock_is table (rounds_kept reached) t next e
