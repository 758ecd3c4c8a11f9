use Rattle.std.proofs.Common.{◌≡◌, ◌++◌, drop}
use Rattle.task_ast.specs.meaning.Names.{controls, declared_in, controls_of}
use Rattle.task_ast.specs.View.{plain_task}
use Rattle.task_code.proofs.variables.control_names.Given as goal

abbrev pub invariant-loop-line : goal.invariant-loop-line
invariant-loop-line l = l.names ++ controls (declared_in (drop l.line-index l.task.vars)) ≡ controls_of (plain_task l.task)
