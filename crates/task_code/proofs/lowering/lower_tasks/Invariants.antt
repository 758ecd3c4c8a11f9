use Rattle.std.proofs.Common.{take}
use Rattle.task_ast.specs.View.{plain_program}
use Rattle.lock_checker.specs.Accepted.{program_of}
use Rattle.task_code.specs.inner.Tasks.{AreTasksOf}
use Rattle.task_code.proofs.lowering.lower_tasks.Given as goal

abbrev pub invariant-loop-k : goal.invariant-loop-k
invariant-loop-k l = AreTasksOf (plain_program (program_of l.checked)) (take l.k (program_of l.checked).tasks) l.tasks l.shapes
