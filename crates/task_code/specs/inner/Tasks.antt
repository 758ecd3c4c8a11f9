-- The code of tasks, one after the other.
use Rattle.std.specs.Prelude.{◌≡◌, ℕ, List, map}
use Rattle.task_ast.specs.declared.tree.TaskText as here
use Rattle.task_ast.specs.meaning.Tree.{Program}
use Rattle.task_ast.specs.View.{plain_task}
use Rattle.task_code.specs.declared.instrs.Instr.{Instr}
use Rattle.task_code.specs.declared.instrs.Shape.{Shape}
use Rattle.task_code.specs.Jumps.{IsShort}
use Rattle.task_code.specs.Lowering.{task_code}
use Rattle.task_code.specs.Existing.{shape_of}
use Rattle.task_code.specs.Reading.{instrs_of}
use Rattle.task_code.specs.View.{plain_instrs}

-- the instructions and the shapes of these tasks of a program
pub record AreTasksOf (program : Program) (texts : List here.TaskText) (tasks : List (List Instr)) (shapes : List Shape) : Type 0 where
  pub code : map plain_instrs tasks ≡ map (λ text. task_code program (plain_task text)) texts
  pub sizes : shapes ≡ map (λ text. shape_of (plain_task text)) texts
  pub short : (task : ℕ) → IsShort (instrs_of (map plain_instrs tasks) task)
