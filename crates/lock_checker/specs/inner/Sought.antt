-- What is looked for in an expression, by the definitions that say whether it stands there.
use Rattle.std.specs.Prelude.{Bool}
use Rattle.task_ast.specs.meaning.Tree.{Expr, Links}
use Rattle.task_ast.specs.meaning.Declarations.{has_unknown, has_data, has_data_index, some_member, is_undeclared, is_data_variable, is_at_data}
use Rattle.lock_checker.specs.declared.expressions.Sought.{Sought}
use Rattle.lock_checker.specs.declared.expressions.Sought.TheVariants.{Unknown, Data, DataIndex}
use Rattle.lock_checker.specs.inner.Scopes.{scope_of, IsScope}

-- names that aren't declared are looked for in a scope whose tables are right
abbrev pub IsSought : Sought → Type 0
IsSought (Unknown scope) = IsScope scope.now
IsSought Data = Unit
IsSought DataIndex = Unit

abbrev pub found_in : Sought → Expr → Bool
found_in (Unknown scope) e = has_unknown (scope_of scope.now) e
found_in Data e = has_data e
found_in DataIndex e = has_data_index e

-- the same, among the operands of a chain after its first
abbrev pub found_among : Sought → Links → Bool
found_among (Unknown scope) links = some_member (is_undeclared (scope_of scope.now)) links
found_among Data links = some_member is_data_variable links
found_among DataIndex links = some_member is_at_data links

-- what is looked for in the indexes of a cell
abbrev pub inside_cell : Sought → Sought
inside_cell (Unknown scope) = Unknown scope
inside_cell Data = Data
inside_cell DataIndex = Data
