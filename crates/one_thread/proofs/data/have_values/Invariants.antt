use Rattle.std.proofs.Common.{◌≡◌, List, drop, map}
use Rattle.std.specs.Prelude.{is_some}
use Rattle.task_ast.specs.meaning.Tree.{Name}
use Rattle.task_ast.specs.meaning.Action.{of_registers}
use Rattle.task_ast.specs.meaning.Control.{all_of}
use Rattle.task_ast.specs.View.{plain_exprs}
use Rattle.one_thread.proofs.data.have_values.Given as goal

abbrev pub invariant-loop-e : goal.invariant-loop-e
invariant-loop-e l =
    (registers : List Name) → is_some (all_of (map (λ e. of_registers registers e l.env) (plain_exprs (drop l.e-index l.es))))
    ≡ is_some (all_of (map (λ e. of_registers registers e l.env) (plain_exprs l.es)))
