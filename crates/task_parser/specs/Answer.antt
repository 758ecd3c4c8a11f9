-- What a parse answers.
use Rattle.std.specs.Prelude.{◌≡◌, Result, Ok, Err}
use Rattle.task_ast.specs.meaning.Tree.{Program}
use Rattle.task_ast.specs.declared.tree.Program.{Program as CodeProgram}
use Rattle.task_ast.specs.View.{plain_program}
use Rattle.task_parser.specs.declared.fault.ParseFault.{ParseFault}
use Rattle.task_parser.specs.declared.fault.ParseFault.TheVariants.{OutOfMemory}

-- The program is answered, unless memory ran out.
abbrev pub Answers : Result CodeProgram ParseFault → Program → Type 0
Answers (Ok p) wanted = plain_program p ≡ wanted
Answers (Err OutOfMemory) wanted = Unit {0}
Answers (Err _) wanted = ⊥
