-- What a batch over files comes to.
use Rattle.std.specs.Prelude.{◌≡◌, ℕ, ℤ, List, ⊤}
use Rattle.gp_base.specs.declared.ending.End.TheVariants.{Finished}
use Rattle.task_ast.specs.declared.tree.Head.{Head}
use Rattle.task_ast.specs.meaning.Tree.{Name}
use Rattle.task_ast.specs.meaning.Names.{records_of}
use Rattle.task_ast.specs.meaning.Layout.{cut}
use Rattle.command_line.specs.declared.asked.Command.TheVariants.{Run}
use Rattle.call_cases.specs.meaning.Work.{Files, ToDo, Go}
use Rattle.call_cases.specs.meaning.Case.{IsCase, text_of}
use Rattle.call_cases.specs.meaning.RunCommands.{asking, commands}
use Rattle.call_cases.specs.meaning.PlainText.{plain_ran}
use Rattle.run_told.specs.Told.{TellsRun}
use Rattle.memory_batch.specs.Runs.{IsRunOver}
use Rattle.memory_batch.specs.Sourced.{sourced}
use Rattle.memory_batch.specs.declared.batch.Unfinished.{Unfinished}
use Rattle.memory_batch.specs.declared.batch.Unfinished.TheVariants.{Ended}

-- The words ask for a run over these files. On one thread it finishes, prints these lines, and leaves these cells in the records that come from
-- files, head by head; and this is its text, with the restarts of its faults.
pub record ComesTo (words : List (List ℕ)) (files : Files) (lines : List (List ℤ)) (cells : List (List ℤ)) (text : List ℕ) : Type 0 where
  pub names : List Name
  pub work : ToDo
  pub is_case : IsCase asking words files (Go names work)
  pub is_run : work.command ≡ Run
  pub finishes : (plain_ran work).end ≡ Finished
  pub prints : (plain_ran work).lines ≡ lines
  pub leaves : sourced work.program.heads (plain_ran work).records ≡ cells
  pub writes : text ≡ text_of commands (Go names work)

-- where a run ended otherwise, it ended as the one over these files does
abbrev pub EndsSo : (words : List (List ℕ)) → Files → Unfinished → Type 0
EndsSo words files (Ended ended) = IsRunOver words files ended
EndsSo words files why = ⊤

-- the text tells these lines, and cells of which these are those of the records that come from files
pub record TellsSourced (heads : List Head) (lines : List (List ℤ)) (cells : List (List ℤ)) (text : List ℕ) : Type 0 where
  pub all : List ℤ
  pub tells : TellsRun heads lines all text
  pub are : cells ≡ sourced heads (cut (records_of heads) all)
