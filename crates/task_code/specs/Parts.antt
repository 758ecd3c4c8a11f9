-- What contracts see of code, from its parts.
use Rattle.std.specs.Prelude.{◌≡◌, ℕ, List, map, Option, option_map, slice_get}
use Rattle.gp_base.specs.declared.numbers.At.{At}
use Rattle.task_ast.specs.meaning.Tree.{Program}
use Rattle.task_ast.specs.View.{plain_program}
use Rattle.task_ast.specs.meaning.Names.{locks_of, barriers_of}
use Rattle.task_ast.specs.meaning.Layout.{layout, lock_over}
use Rattle.task_ast.specs.meaning.Plain.{main_number}
use Rattle.task_code.specs.declared.parts.Parts.{Parts}
use Rattle.task_code.specs.Existing.{shape_of, params_of}
use Rattle.task_code.specs.Flat.{Flat, code_of}
use Rattle.task_code.specs.Jumps.{IsCode}

-- the first place of the task of this number, where there is such a task
abbrev pub first_place : Program → (task : ℕ) → Option At
first_place program k = option_map (λ task. record { task = k; pc = 0 }) (slice_get program.tasks k)

-- the stated numbers of the barriers, in declared order
abbrev pub stated_numbers : Program → List ℕ
stated_numbers program = map (λ b. b.1) (barriers_of program.heads)

-- the program and the instructions of its tasks
abbrev pub flat_of : Parts → Flat
flat_of parts = record { program = parts.program.value; tasks = parts.tasks }

-- the parts are those of the code of an accepted program
pub record AreParts (parts : Parts) : Type 0 where
  pub code : IsCode (code_of (flat_of parts))
  pub shapes : parts.shapes ≡ map shape_of (plain_program parts.program.value).tasks
  pub params : parts.params ≡ map params_of (plain_program parts.program.value).tasks
  pub main : parts.main ≡ main_number (plain_program parts.program.value)
  pub barriers : parts.barriers ≡ stated_numbers (plain_program parts.program.value)
  pub layout : parts.layout ≡ layout parts.program.value.heads
  pub over : (cell : ℕ) → slice_get parts.over cell ≡ lock_over (locks_of parts.program.value.heads) parts.program.value.heads cell
