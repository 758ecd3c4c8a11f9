-- What holds of lowered code beside what it does.
use Rattle.std.specs.Prelude.{◌≡◌, ℕ, ◌+◌, ◌≤◌, ◌<◌, ◌^◌, List, Some, slice_get, length}
use Rattle.task_ast.specs.Shaped.{IsAccepted}
use Rattle.task_ast.specs.meaning.Tree.{TaskText, Program}
use Rattle.task_ast.specs.meaning.Plain.{task_at}
use Rattle.task_code.specs.Existing.{shape_of, VariablesExist}
use Rattle.task_code.specs.Instructions.{Instr, At, Calc, GoOn, Unless, Again, Lowered}
use Rattle.task_code.specs.Lowering.{task_code, lowered}
use Rattle.task_code.specs.Reading.{instrs_of}

-- each jump leads to an instruction, or after the last one
pub record AreInside (code : List Instr) : Type 0 where
  pub go_on : (pc line n : ℕ) → slice_get code pc ≡ Some (At line (GoOn n)) → pc + 1 + n ≤ length code
  pub unless : (pc line n : ℕ) (c : Calc) → slice_get code pc ≡ Some (At line (Unless c n)) → pc + 1 + n ≤ length code
  pub again : (pc line n : ℕ) (c : Calc) → slice_get code pc ≡ Some (At line (Again c n)) → n ≤ pc

-- so few instructions that a number of 32 bits counts them
abbrev pub IsShort : List Instr → Type 0
IsShort code = length code < 2 ^ 32

-- the code of an accepted program
pub record IsCode (code : Lowered) : Type 0 where
  pub accepted : IsAccepted code.program
  pub made : code ≡ lowered code.program
  pub inside : (task : ℕ) → AreInside (instrs_of code.tasks task)
  pub short : (task : ℕ) → IsShort (instrs_of code.tasks task)
  pub variables : (task : ℕ) → VariablesExist (shape_of (task_at code.program task)) (instrs_of code.tasks task)

-- each jump of a task's code stays inside it
abbrev pub JumpsLaw : Type 0
JumpsLaw = (program : Program) (task : TaskText) → AreInside (task_code program task)
