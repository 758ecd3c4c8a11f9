-- The names of tasks.
use Rattle.std.specs.Prelude.{List, map}
use Rattle.task_ast.specs.declared.tree.TaskText.{TaskText}
use Rattle.task_ast.specs.meaning.Tree.{Name}

abbrev pub name_of : TaskText → Name
name_of task = task.name

abbrev pub names_of : List TaskText → List Name
names_of tasks = map name_of tasks
