-- The names of files in memory.
use Rattle.std.specs.Prelude.{Bool, is_some}
use Rattle.gp_base.specs.meaning.Files.{bytes_of}
use Rattle.task_ast.specs.meaning.Tree.{Name}
use Rattle.call_cases.specs.meaning.Work.{Files}

-- there is a file of this name
abbrev pub has : Files → Name → Bool
has files name = is_some (bytes_of files name)
