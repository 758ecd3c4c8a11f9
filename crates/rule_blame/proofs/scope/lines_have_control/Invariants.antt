use Rattle.std.proofs.Common.{◌≡◌, drop}
use Rattle.task_ast.specs.meaning.Names.{is_among, controls, declared_in}
use Rattle.rule_blame.proofs.scope.lines_have_control.Given as goal

abbrev pub invariant-loop-vars : goal.invariant-loop-vars
invariant-loop-vars l =
    is_among l.x (controls (declared_in (drop l.vars-index l.lines))) ≡ is_among l.x (controls (declared_in l.lines))
