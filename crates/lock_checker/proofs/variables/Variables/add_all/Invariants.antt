use Rattle.std.proofs.Common.{◌≡◌, List, ◌++◌, take, drop}
use Rattle.std.specs.Prelude.{◌||◌}
use Rattle.task_ast.specs.declared.tree.Param.{Param}
use Rattle.task_ast.specs.meaning.Declarations.{has_double}
use Rattle.lock_checker.specs.inner.TaskVariables.{AreVariables}
use Rattle.lock_checker.proofs.variables.Variables.add_all.Given as goal

-- a double among the names so far or among those left is a double among all
abbrev pub invariant-loop-x : goal.invariant-loop-x
invariant-loop-x l =
    (before : List Param) → AreVariables l.initial.self before
    → ((l.double || has_double (before ++ take l.x-index l.names) (drop l.x-index l.names)) ≡ has_double before l.names)
    × AreVariables l.self (before ++ take l.x-index l.names)
