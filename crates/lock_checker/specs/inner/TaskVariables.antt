-- The variables of a task, by name.
use Rattle.std.specs.Prelude.{◌≡◌, Bool, List, ◌++◌, is_some}
use Rattle.task_ast.specs.declared.tree.Param.{Param}
use Rattle.task_ast.specs.meaning.Tree.{Name}
use Rattle.task_ast.specs.meaning.Names.{is_among, controls, datas}
use Rattle.task_ast.specs.meaning.Declarations.{has_double}
use Rattle.lock_checker.specs.declared.variables.Variables.{Variables}
use Rattle.lock_checker.specs.Tables.{found}

-- the tables find the variables that were declared
pub record AreVariables (v : Variables) (params : List Param) : Type 0 where
  pub controls : (x : Name) → is_some (found v.controls x) ≡ is_among x (controls params)
  pub datas : (x : Name) → is_some (found v.datas x) ≡ is_among x (datas params)

-- names were added to those before, and whether one of them was there before it
pub record Adds (v : Variables) (before names : List Param) (double : Bool) : Type 0 where
  pub told : double ≡ has_double before names
  pub variables : AreVariables v (before ++ names)
