-- The thread with which a run starts.
use Rattle.std.specs.Prelude.{[], length, replicate, pos}
use Rattle.task_ast.specs.declared.tree.Program.{Program as Code}
use Rattle.task_ast.specs.meaning.Names.{registers_of}
use Rattle.task_ast.specs.meaning.Plain.{task_at, main_number}
use Rattle.task_ast.specs.View.{plain_program}
use Rattle.one_thread.specs.declared.walk.Walk.{Walk}
use Rattle.one_thread.specs.Runs.{IsNew}

-- a thread at the start of the task `main`, whose registers are 0
abbrev pub IsFirst : Code → Walk → Type 0
IsFirst code w =
    let main = main_number (plain_program code) in
    IsNew code main 0 [] (replicate (length (registers_of (task_at (plain_program code) main))) (pos 0)) w
