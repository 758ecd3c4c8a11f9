use Rattle.std.proofs.Common.{◌≡◌, ◌≤◌, ◌++◌, drop}
use Rattle.task_ast.specs.meaning.Names.{controls}
use Rattle.task_ast.specs.meaning.Plain.{given}
use Rattle.one_thread.proofs.variables.add_controls.Given as goal

abbrev pub invariant-loop-param : goal.invariant-loop-param
invariant-loop-param l = record {
  same : l.names ++ given (controls (drop l.param-index l.params)) (drop l.count l.values)
      ≡ l.fn.names ++ given (controls l.params) l.values;
  few : l.count ≤ l.param-index;
}
