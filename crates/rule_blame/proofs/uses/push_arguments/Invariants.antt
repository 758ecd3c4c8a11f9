use Rattle.std.proofs.Common.{◌≡◌, ◌++◌, drop}
use Rattle.task_ast.specs.View.{plain_exprs}
use Rattle.rule_blame.specs.Uses.{argument_names}
use Rattle.rule_blame.specs.Views.{used_in}
use Rattle.rule_blame.proofs.uses.push_arguments.Given as goal

abbrev pub invariant-loop-at : goal.invariant-loop-at
invariant-loop-at l =
    used_in l.uses.items ++ argument_names (drop l.at l.params) (plain_exprs (drop l.at l.arguments))
    ≡ used_in l.initial.uses.items ++ argument_names l.params (plain_exprs l.arguments)
