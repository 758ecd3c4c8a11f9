use Rattle.std.proofs.Common.{◌≡◌}
use Rattle.task_ast.specs.meaning.Control.{control_arguments}
use Rattle.task_ast.specs.View.{plain_exprs}
use Rattle.one_thread.proofs.Forks.{controls_from}
use Rattle.one_thread.proofs.walk.control_values.Given as goal

abbrev pub invariant-loop-k : goal.invariant-loop-k
invariant-loop-k g l = controls_from l.params l.es l.env l.k l.values ≡ control_arguments l.params (plain_exprs l.es) l.env
