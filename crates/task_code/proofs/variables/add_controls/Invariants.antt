use Rattle.std.proofs.Common.{◌≡◌, ◌++◌, drop}
use Rattle.task_ast.specs.meaning.Names.{controls}
use Rattle.task_code.proofs.variables.add_controls.Given as goal

abbrev pub invariant-loop-param : goal.invariant-loop-param
invariant-loop-param l = l.names ++ controls (drop l.param-index l.params) ≡ l.fn.names ++ controls l.params
