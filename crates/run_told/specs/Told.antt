-- What the text of a finished run tells.
use Rattle.std.specs.Prelude.{◌≡◌, ℕ, ℤ, List}
use Rattle.gp_base.specs.declared.ending.End.TheVariants.{Finished}
use Rattle.gp_base.specs.declared.journal.Restart.{Restart}
use Rattle.task_ast.specs.declared.tree.Head.{Head}
use Rattle.task_ast.specs.meaning.Names.{records_of}
use Rattle.task_ast.specs.meaning.Layout.{cut}
use Rattle.call_cases.specs.meaning.Texts.{Ran, run_text}

-- a run that finished, printed these lines, and left these cells in the records of these heads
pub record WentSo (heads : List Head) (lines : List (List ℤ)) (cells : List ℤ) (ran : Ran) : Type 0 where
  pub finished : ran.end ≡ Finished
  pub printed_lines : ran.lines ≡ lines
  pub left : ran.records ≡ cut (records_of heads) cells

-- whatever run over records of these heads has this text, it went so
abbrev pub TellsRun : List Head → (lines : List (List ℤ)) → (cells : List ℤ) → (text : List ℕ) → Type 0
TellsRun heads lines cells text =
    (ran : Ran) (own : List ℤ) (restarts : List Restart) (faults : ℕ) → ran.records ≡ cut (records_of heads) own
    → text ≡ run_text ran restarts faults → WentSo heads lines cells ran
