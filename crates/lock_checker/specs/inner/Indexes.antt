-- The index of a program.
use Rattle.std.specs.Prelude.{◌≡◌, List, map, find, option_map, is_some}
use Rattle.std.specs.Borrow.{Bor}
use Rattle.task_ast.specs.declared.tree.Head.{Head}
use Rattle.task_ast.specs.declared.tree.Program.{Program}
use Rattle.task_ast.specs.declared.tree.TaskText.{TaskText}
use Rattle.task_ast.specs.meaning.Tree as plain
use Rattle.task_ast.specs.meaning.Names.{is_among, is_task, named, locks_of, arrays_over, barriers_of, feeds_of, task_named}
use Rattle.task_ast.specs.View.{plain_task, plain_program}
use Rattle.lock_checker.specs.declared.index.ProgramIndex.{ProgramIndex}
use Rattle.lock_checker.specs.Tables.{found}

-- what a reference to a name points to
abbrev pub target : Bor plain.Name → plain.Name
target r = r.now

-- each table of the index finds what the program declares
pub record IsIndexOf (index : ProgramIndex) (program : Program) : Type 0 where
  pub locks : (x : plain.Name) → found index.locks x ≡ named x (locks_of program.heads)
  pub arrays : (x : plain.Name) → option_map target (found index.arrays x) ≡ named x (arrays_over program.heads)
  pub barriers : (x : plain.Name) → is_some (found index.barriers x) ≡ is_some (named x (barriers_of program.heads))
  pub feeds : (x : plain.Name) → is_some (found index.feeds x) ≡ is_among x (feeds_of program.heads)
  pub tasks : (x : plain.Name) → option_map (λ task. plain_task task.now) (found index.tasks x) ≡ task_named (plain_program program) x

-- each table of the index finds what these heads and these tasks declare
pub record Finds (index : ProgramIndex) (heads : List Head) (texts : List TaskText) : Type 0 where
  pub locks : (x : plain.Name) → found index.locks x ≡ named x (locks_of heads)
  pub arrays : (x : plain.Name) → option_map target (found index.arrays x) ≡ named x (arrays_over heads)
  pub barriers : (x : plain.Name) → is_some (found index.barriers x) ≡ is_some (named x (barriers_of heads))
  pub feeds : (x : plain.Name) → is_some (found index.feeds x) ≡ is_among x (feeds_of heads)
  pub tasks : (x : plain.Name) → option_map (λ task. plain_task task.now) (found index.tasks x) ≡ find (is_task x) (map plain_task texts)
