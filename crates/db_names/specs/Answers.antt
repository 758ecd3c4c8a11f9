-- What is answered of the tables of a program.
use Rattle.std.specs.Prelude.{◌≡◌, List, Result, Ok, Err, ⊤}
use Rattle.task_ast.specs.meaning.Tree.{Name}
use Rattle.db_names.specs.declared.sources.NameFault.{NameFault}
use Rattle.db_names.specs.declared.sources.NameFault.TheVariants.{Refused, OutOfMemory}
use Rattle.db_names.specs.declared.sources.NameRule.{NameRule}
use Rattle.db_names.specs.declared.sources.Source.{Source}

-- it is this, unless memory is out
abbrev pub IsAnswer : Result (List Source) NameFault → Result (List Source) (Name × NameRule) → Type 0
IsAnswer (Ok sources) exact = exact ≡ Ok sources
IsAnswer (Err (Refused file rule)) exact = exact ≡ Err (file, rule)
IsAnswer (Err OutOfMemory) exact = ⊤
