-- A scope of the code as the scope that definitions see.
use Rattle.std.specs.Prelude.{◌++◌}
use Rattle.task_ast.specs.meaning.Names.{declared_in}
use Rattle.task_ast.specs.meaning.Declarations as plain
use Rattle.task_ast.specs.View.{plain_task, plain_program}
use Rattle.lock_checker.specs.declared.scope.Scope.{Scope}
use Rattle.lock_checker.specs.inner.Indexes.{IsIndexOf}
use Rattle.lock_checker.specs.inner.TaskVariables.{AreVariables}

abbrev pub scope_of : Scope → plain.Scope
scope_of s = record { program = plain_program s.program.now; task = plain_task s.task.now }

-- the index is the program's, and the variables are the task's
pub record IsScope (s : Scope) : Type 0 where
  pub index : IsIndexOf s.index.now s.program.now
  pub variables : AreVariables s.variables.now (s.task.now.params ++ declared_in s.task.now.vars)
