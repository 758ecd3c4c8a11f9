use Rattle.std.proofs.Common.{◌≡◌, ◌++◌, [], drop}
use Rattle.task_ast.specs.meaning.Names.{controls, declared_in}
use Rattle.task_ast.specs.meaning.Plain.{given}
use Rattle.one_thread.proofs.variables.control_variables.Given as goal

abbrev pub invariant-loop-line : goal.invariant-loop-line
invariant-loop-line l =
    l.names ++ given (controls (declared_in (drop l.line-index l.task.vars))) []
    ≡ given (controls l.task.params) l.arguments ++ given (controls (declared_in l.task.vars)) []
