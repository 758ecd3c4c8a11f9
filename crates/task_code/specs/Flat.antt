-- What contracts see of code.
use Rattle.std.specs.Prelude.{List, map}
use Rattle.task_ast.specs.declared.tree.Program.{Program}
use Rattle.task_ast.specs.View.{plain_program}
use Rattle.task_code.specs.declared.instrs.Instr.{Instr}
use Rattle.task_code.specs.Instructions.{Lowered}
use Rattle.task_code.specs.View.{plain_instrs}

-- the program that was lowered, and the instructions of each of its tasks in text order
pub record Flat : Type 0 where
  pub program : Program
  pub tasks : List (List Instr)

-- the same as definitions see it
abbrev pub code_of : Flat → Lowered
code_of flat = record { program = plain_program flat.program; tasks = map plain_instrs flat.tasks }
