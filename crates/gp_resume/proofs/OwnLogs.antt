-- The rows of a first part of a run's own log are the first of its own rows.
use Rattle.std.proofs.Common.{◌≡◌, ℕ, ◌≤◌, List, ◌++◌, length, take, drop, sym, ap, ◌∙◌, arith}
use Rattle.std.specs.Prelude.{codes}
use Rattle.std.proofs.lemmas.List.{take-append-drop}
use Rattle.gp_base.specs.declared.limits.Limits.{Limits}
use Rattle.gp_base.specs.declared.feed.Inputs.{Inputs}
use Rattle.task_ast.specs.meaning.Tree.{Program}
use Rattle.task_ast.specs.meaning.Run.{plain_order}
use Rattle.crew.specs.meaning.Noted.{left_in_order}
use Rattle.retirement_log.specs.meaning.Rows.{Retirement}
use Rattle.retirement_log.specs.meaning.Log.{log_rows, log}
use Rattle.gp_resume.specs.meaning.Reading.{IsLogOf}
use Rattle.gp_resume.specs.Laws.{own_rows}
use Rattle.gp_resume.proofs.LogRows.{first-rows}
use Rattle.gp_resume.proofs.Replaying.{length-left, length-rows}

module _ (program : Program) (inputs : Inputs) (limits : Limits) where
  pub first-own : (logged : ℕ) (rows : List Retirement) → IsLogOf program inputs limits (take logged (log program inputs limits)) rows
      → (p : ℕ) × (p ≤ length (plain_order program inputs limits)) × (rows ≡ own_rows program inputs limits p)
  first-own logged rows is =
      let text = log program inputs limits in
      let told = left_in_order program inputs limits in
      let first = first-rows rows (log_rows told) is.rest (drop logged text) is.begins.wide
      (sym (take-append-drop logged text) ∙ ap (λ t. t ++ drop logged text) is.begins.bytes_are) in
      let count = length-rows 0 (length (codes "output\n")) told ∙ length-left program inputs limits 0 (plain_order program inputs limits) in
      (first.0, (let few = first.1 in omega (arith, few, count)), first.2)
