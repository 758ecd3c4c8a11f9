-- The text that a run writes when it goes on from the first bytes of its own log is the rest of the text of one thread.
use Rattle.std.proofs.Common.{◌≡◌, ◌≤◌, ℕ, pos, List, ◌++◌, length, take, refl, sym, ap, subst, ◌∙◌}
use Rattle.std.proofs.Math.Seq.{take-append_seam}
use Rattle.gp_base.specs.declared.feed.Inputs.{Inputs}
use Rattle.gp_base.specs.declared.limits.Limits.{Limits}
use Rattle.task_ast.specs.meaning.Tree.{Program}
use Rattle.task_ast.specs.meaning.Run.{plain_order}
use Rattle.retirement_log.specs.meaning.Rows.{Retirement}
use Rattle.gp_resume.specs.Laws.{own_rows, text_before, text_of_one}
use Rattle.gp_resume.specs.meaning.Resumed.{bytes_before}
use Rattle.gp_resume.specs.meaning.Resumed as rest
use Rattle.gp_resume.proofs.OwnLogs.{first-own}
use Rattle.gp_resume.proofs.Texts.{bytes-known, joined}
use Rattle.command_line.specs.declared.asked.Command.TheVariants.{One}
use Rattle.call_cases.specs.meaning.Work.{ToDo}
use Rattle.call_cases.specs.meaning.PlainText.{plain_ran}
use Rattle.call_cases.specs.meaning.RunCommands.{work_text}
use Rattle.resume_calls.specs.meaning.Laws.{JoinedTextLaw}

-- the first bytes and those after them are all
pub cut_joined : (before text all : List ℕ) → before ++ text ≡ all → take (length before) all ++ text ≡ all
cut_joined before text all same =
    ap (λ t. take (length before) t ++ text) (sym same) ∙ ap (λ t. t ++ text) (take-append_seam before text) ∙ same

-- the text of the run of one thread
pub same_text : (work : ToDo) → text_of_one work.program work.inputs work.limits ≡ work_text One work
unfolding plain_ran
same_text work = refl

-- the first rows of a run's own log, and the text of one thread
module _ (program : Program) (inputs : Inputs) (limits : Limits) (all : List ℕ) (text : text_of_one program inputs limits ≡ all) where
  joined_rows : (p : ℕ) → p ≤ length (plain_order program inputs limits) → (rows : List Retirement) → rows ≡ own_rows program inputs limits p
      → (count : ℕ) × (bytes_before rows ≡ pos count) × (take count all ++ rest.text program inputs limits rows ≡ all)
  joined_rows p within rows are =
      let before = text_before program inputs limits p in
      subst (λ r. (count : ℕ) × (bytes_before r ≡ pos count) × (take count all ++ rest.text program inputs limits r ≡ all)) (sym are) (
        length before,
        bytes-known program inputs limits p within,
        cut_joined before (rest.text program inputs limits (own_rows program inputs limits p)) all
            (joined program inputs limits p within ∙ text),
      )

pub joined_text : JoinedTextLaw
joined_text resumption logged log_of =
    let work = resumption.work in
    let first = first-own work.program work.inputs work.limits logged resumption.rows log_of in
    joined_rows work.program work.inputs work.limits (work_text One work) (same_text work) first.0 first.1 resumption.rows first.2
