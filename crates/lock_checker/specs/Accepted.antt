-- What the check accepts and answers.
use Rattle.std.specs.Prelude.{◌≡◌, ℕ, Option, Some}
use Rattle.task_ast.specs.declared.check_kind.CheckKind.{CheckKind}
use Rattle.task_ast.specs.declared.tree.Program.{Program}
use Rattle.task_ast.specs.meaning.Check.{check_fault}
use Rattle.task_ast.specs.View.{plain_program}
use Rattle.lock_checker.specs.declared.checked.Checked.{Checked}
use Rattle.lock_checker.specs.declared.fault.CheckFault.{CheckFault}
use Rattle.lock_checker.specs.declared.fault.CheckFault.TheVariants.{Bad, OutOfMemory}

-- the program that was accepted
abbrev pub program_of : Checked → Program
program_of checked = checked.program

-- a fault is the one that was found; out of memory says nothing of it
abbrev pub Told : CheckFault → Option (CheckKind × ℕ) → Type 0
Told (Bad kind line) found = found ≡ Some (kind, line)
Told OutOfMemory found = Unit {0}

-- a fault is the program's first; out of memory says nothing of it
abbrev pub IsFaultOf : CheckFault → Program → Type 0
IsFaultOf fault program = Told fault (check_fault (plain_program program))
