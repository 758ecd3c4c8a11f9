use Rattle.std.proofs.Common.{◌≡◌, drop}
use Rattle.task_ast.specs.meaning.Names.{is_among, controls}
use Rattle.rule_blame.proofs.scope.has_control.Given as goal

abbrev pub invariant-loop-param : goal.invariant-loop-param
invariant-loop-param l =
    is_among l.x (controls (drop l.param-index l.params)) ≡ is_among l.x (controls l.params)
