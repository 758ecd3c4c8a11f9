-- The texts that may be told of a case. That of a run begins with how it ends and, where no thread can go on, who waits for what.
use Rattle.std.specs.Prelude.{◌≡◌, ◌⊎◌, ℕ, List, ◌++◌, length, codes, decimal}
use Rattle.gp_base.specs.declared.ending.End.{End}
use Rattle.gp_base.specs.declared.ending.End.TheVariants.{Finished, Stuck, Spent}
use Rattle.gp_base.specs.declared.feed.Inputs.{Inputs}
use Rattle.gp_base.specs.declared.limits.Limits.{Limits}
use Rattle.task_ast.specs.meaning.Tree.{Program}
use Rattle.task_ast.specs.meaning.Run.{Run, plain_order, plain_before, plain_end}
use Rattle.restart_log.specs.meaning.Tail.{why_word}
use Rattle.call_cases.specs.meaning.Work.{ToDo, Case, Refused, Go}
use Rattle.run_views.specs.meaning.Deadlocks.{deadlock_text}

-- how a run ends
abbrev pub ending_line : End → List ℕ
ending_line Finished = codes "ok\n"
ending_line (Stuck why thread line) =
    codes "stuck " ++ why_word why ++ codes " thread " ++ decimal thread ++ codes " line " ++ decimal line ++ codes "\n"
ending_line (Spent position) = codes "spent " ++ decimal position ++ codes "\n"

module _ (program : Program) (inputs : Inputs) (limits : Limits) where
  -- where the threads stand after the last subthread
  abbrev pub last_run : Run
  last_run = plain_before program inputs limits (length (plain_order program inputs limits))

  -- the front of what is told of a run: how it ends and, where no thread can go on, what each waits for and who stands at barriers
  unfoldable pub front : List ℕ
  front = ending_line (plain_end program inputs limits) ++ deadlock_text program.heads last_run (plain_end program inputs limits)

-- what is told of words of no command, and of a file that could not be read
abbrev pub IsHint : List ℕ → Type 0
IsHint text = (more : List ℕ) × (text ≡ codes "hint: " ++ more)

-- The texts of a case. The words of a refusal are left open, and what is told of a run after its front.
abbrev pub IsText : Case ToDo → List ℕ → Type 0
IsText (Refused status names line) text = (status ≡ 3) ⊎ (status ≡ 4) ⊎ IsHint text
IsText (Go names work) text = (more : List ℕ) × (text ≡ front work.program work.inputs work.limits ++ more)
