-- What the statements of a task are lowered under, from the code's scope.
use Rattle.std.specs.Prelude.{◌≡◌, map, position}
use Rattle.task_ast.specs.meaning.Tree as plain
use Rattle.task_ast.specs.meaning.Names.{is_name, barriers_of, feeds_of, registers_of, is_task}
use Rattle.task_ast.specs.View.{plain_program}
use Rattle.lock_checker.specs.Accepted.{program_of}
use Rattle.lock_checker.specs.Tables.{found}
use Rattle.task_code.specs.declared.scope.CodeIndex.{CodeIndex}
use Rattle.task_code.specs.declared.scope.Scope as here
use Rattle.task_code.specs.Lowering.{Scope}

-- the tables find what the program declares
pub record IsIndexOf (index : CodeIndex) (program : plain.Program) : Type 0 where
  pub barriers : (x : plain.Name) → found index.barriers x ≡ position (λ other. is_name x other.0) (barriers_of program.heads)
  pub feeds : (x : plain.Name) → found index.feeds x ≡ position (is_name x) (feeds_of program.heads)
  pub tasks : (x : plain.Name) → found index.tasks x ≡ position (is_task x) program.tasks
  pub registers : index.registers.items ≡ map registers_of program.tasks

-- the scope as definitions see it
abbrev pub scope_here : here.Scope → Scope
scope_here s = record { program = plain_program (program_of s.checked.now); controls = s.controls.now; registers = s.registers.now }

-- the scope's tables are those of its program
pub record IsScope (s : here.Scope) : Type 0 where
  pub index : IsIndexOf s.index.now (plain_program (program_of s.checked.now))
