use Rattle.std.proofs.Common.{◌≡◌, drop}
use Rattle.std.specs.List.{list_any}
use Rattle.task_ast.specs.View.{plain_exprs}
use Rattle.lock_checker.specs.inner.Sought.{found_in}
use Rattle.lock_checker.proofs.expressions.finds_any.Given as goal

abbrev pub invariant-loop-e : goal.invariant-loop-e
invariant-loop-e l = list_any (found_in l.sought) (plain_exprs (drop l.e-index l.es)) ≡ list_any (found_in l.sought) (plain_exprs l.es)
