use Rattle.std.proofs.Common.{◌≡◌, ◌+◌, drop, length}
use Rattle.task_ast.specs.meaning.Names.{declared_in}
use Rattle.rule_blame.proofs.tasks.count_variables.Given as goal

abbrev pub invariant-loop-vars : goal.invariant-loop-vars
invariant-loop-vars l =
    l.count + length (declared_in (drop l.vars-index l.lines)) ≡ l.others + length (declared_in l.lines)
