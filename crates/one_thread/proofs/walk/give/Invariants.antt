use Rattle.std.specs.Prelude.{ℤ}
use Rattle.task_ast.specs.meaning.Control.{Setting, data_arguments}
use Rattle.task_ast.specs.View.{plain_exprs}
use Rattle.one_thread.proofs.Forks.{AheadOf, rest_from}
use Rattle.one_thread.proofs.walk.give.Given as goal

abbrev pub invariant-loop-k : goal.invariant-loop-k
invariant-loop-k g l =
    (joined : ℤ) (s : Setting) → AheadOf joined (data_arguments s l.given l.names l.params (plain_exprs l.es) l.env)
    (rest_from joined s l.given l.names l.env
    (data_arguments s l.given l.names l.params (plain_exprs l.es) l.env) l.initial.data l.params l.es l.k) l.data l.initial.data
