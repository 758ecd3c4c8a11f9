-- What the code keeps as definitions see it.
use Rattle.std.specs.Prelude.{ℕ, Bool, true, false, List, [], ◌∷◌, map, Option, Some, None, slice_get}
use Rattle.task_ast.specs.declared.tree.Param.{Param}
use Rattle.task_ast.specs.meaning.Held.{Pair}
use Rattle.task_ast.specs.meaning.Declarations as plain_scope
use Rattle.task_ast.specs.View.{plain_task, plain_program, plain_what}
use Rattle.rule_blame.specs.declared.scope.Scope.{Scope}
use Rattle.rule_blame.specs.declared.uses.Use.{Use}
use Rattle.rule_blame.specs.declared.held.Taken.{Taken}
use Rattle.rule_blame.specs.declared.entries.Entry.{Entry}
use Rattle.rule_blame.specs.Uses.{Used, is_control_param}
use Rattle.task_ast.specs.declared.tree.What.{What}
use Rattle.rule_blame.specs.Points.{Point}
use Rattle.rule_blame.specs.DeclaredNames as plain

abbrev pub used_by : Use → Used
used_by u = record { role = u.role; name = u.name.now; decides = u.decides }

abbrev pub used_in : List Use → List Used
used_in uses = map used_by uses

abbrev pub pair_of : Taken → Pair
pair_of taken = (taken.array.now, taken.index.now)

abbrev pub pairs_of : List Taken → List Pair
pairs_of held = map pair_of held

abbrev pub entry_of : Entry → plain.Entry
entry_of e = (e.name.now, e.line)

abbrev pub entries_in : List Entry → List plain.Entry
entries_in entries = map entry_of entries

-- the argument at this place is one for a control parameter
abbrev pub decides : Option Param → Bool
decides None = false
decides (Some p) = is_control_param p

abbrev pub decides_at : List Param → ℕ → Bool
decides_at params at = decides (slice_get params at)

abbrev pub scope_of : Scope → plain_scope.Scope
scope_of s = record { program = plain_program s.program.now; task = plain_task s.task.now }

-- a statement at a line, with what is held before it
abbrev pub point_at : ℕ → What → List Pair → Point
point_at line what held = record { line = line; what = plain_what what; held = held }
