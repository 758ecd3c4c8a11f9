use Rattle.std.proofs.Common.{◌≡◌, drop}
use Rattle.std.specs.Prelude.{zip}
use Rattle.std.specs.List.{list_any}
use Rattle.task_ast.specs.meaning.Declarations.{is_misplaced}
use Rattle.task_ast.specs.View.{plain_exprs}
use Rattle.lock_checker.proofs.rules.any_misplaced.Given as goal

-- no argument so far is misplaced
abbrev pub invariant-loop-i : goal.invariant-loop-i
invariant-loop-i l =
    list_any is_misplaced (zip (drop l.i l.params) (plain_exprs (drop l.i l.arguments)))
    ≡ list_any is_misplaced (zip l.params (plain_exprs l.arguments))
