use Rattle.std.proofs.Common.{◌≡◌, List, drop}
use Rattle.std.specs.Prelude.{is_some}
use Rattle.task_ast.specs.meaning.Tree.{Name}
use Rattle.task_ast.specs.meaning.Control.{Setting, data_arguments}
use Rattle.task_ast.specs.View.{plain_exprs}
use Rattle.one_thread.proofs.walk.data_fits.Given as goal

abbrev pub invariant-loop-k : goal.invariant-loop-k
invariant-loop-k l =
    (s : Setting) (given registers : List Name)
    → is_some (data_arguments s given registers (drop l.k l.params) (plain_exprs (drop l.k l.es)) l.env)
    ≡ is_some (data_arguments s given registers l.params (plain_exprs l.es) l.env)
