use Rattle.task_ast.proofs.Keeping.{reads_same, writes_within}
use Rattle.task_ast.proofs.laws.keeping_laws.Goals as goal

pub returns : goal.returns
returns c = record { reads = reads_same; within = writes_within }
