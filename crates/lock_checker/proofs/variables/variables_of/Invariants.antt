use Rattle.std.proofs.Common.{◌++◌, take}
use Rattle.task_ast.specs.meaning.Names.{declared_in}
use Rattle.lock_checker.specs.inner.TaskVariables.{AreVariables}
use Rattle.lock_checker.proofs.variables.variables_of.Given as goal

abbrev pub invariant-loop-line : goal.invariant-loop-line
invariant-loop-line l = AreVariables l.variables (l.task.params ++ declared_in (take l.line-index l.task.vars))
