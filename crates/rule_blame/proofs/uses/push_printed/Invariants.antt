use Rattle.std.proofs.Common.{◌≡◌, ◌++◌, drop}
use Rattle.task_ast.specs.View.{plain_exprs}
use Rattle.rule_blame.specs.Uses.{printed_names}
use Rattle.rule_blame.specs.Views.{used_in}
use Rattle.rule_blame.proofs.uses.push_printed.Given as goal

abbrev pub invariant-loop-e : goal.invariant-loop-e
invariant-loop-e l =
    used_in l.uses.items ++ printed_names (plain_exprs (drop l.e-index l.es)) ≡ used_in l.initial.uses.items ++ printed_names (plain_exprs l.es)
