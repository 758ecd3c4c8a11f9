use Rattle.std.proofs.Common.{drop}
use Rattle.std.specs.Prelude.{ℤ}
use Rattle.task_ast.specs.meaning.Control.{arm}
use Rattle.task_ast.specs.View.{plain_block}
use Rattle.one_thread.specs.inner.Working.{setting_in, arm_worked}
use Rattle.task_ast.proofs.Arms.{Ahead}
use Rattle.one_thread.proofs.data.+performing.Given as goal

abbrev pub invariant-perform_all-loop-stmt : goal.invariant-perform_all-loop-stmt
invariant-perform_all-loop-stmt g l =
    (joined : ℤ)
    → Ahead (arm_worked joined) (arm (setting_in l.program.program l.env) l.names (plain_block l.block) l.env)
    (arm (setting_in l.program.program l.env) l.names (plain_block (drop l.stmt-index l.block)) l.env) l.data l.initial.data
