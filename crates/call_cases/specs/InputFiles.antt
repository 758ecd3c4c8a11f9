-- Which files a program names.
use Rattle.std.specs.Prelude.{List, [], ◌∷◌, flat_map, Option, None, Some, if◌then◌else◌}
use Rattle.task_ast.specs.declared.tree.Head.{Head}
use Rattle.task_ast.specs.declared.tree.Head.TheVariants.{RecHead, FeedHead}
use Rattle.task_ast.specs.meaning.Tree.{Name}
use Rattle.command_line.specs.declared.asked.Command.{Command}
use Rattle.call_cases.specs.meaning.Work.{runs}

-- the file that is named, if one is
abbrev pub named : Option Name → List Name
named None = []
named (Some file) = file ∷ []

-- the file that a head names, if it does
abbrev pub names_in : Head → List Name
names_in (RecHead name size by from line) = named from
names_in (FeedHead name fields file line) = file ∷ []
names_in head = []

-- the files that heads name, in declared order
abbrev pub file_names : List Head → List Name
file_names heads = flat_map names_in heads

-- the files that are read for a command beside that of its faults; one that does not run its program reads none
abbrev pub names_for : Command → List Head → List Name
names_for command heads = if runs command then file_names heads else []
