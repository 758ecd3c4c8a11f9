use Rattle.std.proofs.Common.{◌≡◌, List, drop}
use Rattle.std.specs.Prelude.{is_some}
use Rattle.task_ast.specs.meaning.Tree.{Name}
use Rattle.task_ast.specs.meaning.Control.{arm}
use Rattle.task_ast.specs.View.{plain_block}
use Rattle.one_thread.specs.inner.Working.{setting_in}
use Rattle.one_thread.proofs.data.+fitting.Given as goal

abbrev pub invariant-all_fit-loop-stmt : goal.invariant-all_fit-loop-stmt
invariant-all_fit-loop-stmt l =
    (registers : List Name) → is_some (arm (setting_in l.program.program l.env) registers (plain_block (drop l.stmt-index l.block)) l.env)
    ≡ is_some (arm (setting_in l.program.program l.env) registers (plain_block l.block) l.env)
