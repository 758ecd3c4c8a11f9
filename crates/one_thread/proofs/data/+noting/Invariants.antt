use Rattle.std.proofs.Common.{List, drop}
use Rattle.task_ast.specs.meaning.Tree.{Name}
use Rattle.task_ast.specs.meaning.Footprint.{arm_naming}
use Rattle.task_ast.specs.meaning.Control.{arm}
use Rattle.task_ast.specs.View.{plain_block}
use Rattle.one_thread.specs.inner.Working.{setting_in}
use Rattle.task_ast.proofs.Arms.{Ahead}
use Rattle.one_thread.proofs.data.+noting.Given as goal

abbrev pub invariant-note_all-loop-stmt : goal.invariant-note_all-loop-stmt
invariant-note_all-loop-stmt l =
    (registers : List Name)
    → Ahead arm_naming (arm (setting_in l.program.program l.env) registers (plain_block l.block) l.env)
    (arm (setting_in l.program.program l.env) registers (plain_block (drop l.stmt-index l.block)) l.env) l.named l.initial.named
