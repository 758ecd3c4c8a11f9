use Rattle.std.proofs.Common.{◌≡◌, ◌+◌, ◌≤◌, drop, length}
use Rattle.task_ast.specs.meaning.Names.{controls}
use Rattle.task_code.proofs.variables.count_controls.Given as goal

abbrev pub invariant-loop-param : goal.invariant-loop-param
invariant-loop-param l = record {
  same : l.count + length (controls (drop l.param-index l.params)) ≡ length (controls l.params);
  few : l.count ≤ l.param-index;
}
