-- The front of what is told of a run, by how it ends.
use Rattle.std.proofs.Common.{◌≡◌, ◌∙◌, ◌++◌, ℕ, List, length, map, append-nil, ap, sym}
use Rattle.gp_base.specs.declared.ending.End.{End}
use Rattle.gp_base.specs.declared.ending.End.TheVariants.{Finished, Spent}
use Rattle.gp_base.specs.declared.feed.Inputs.{Inputs}
use Rattle.gp_base.specs.declared.limits.Limits.{Limits}
use Rattle.task_ast.specs.meaning.Tree.{Program}
use Rattle.task_ast.specs.meaning.Run.{plain_order}
use Rattle.task_ast.specs.Plain.{Plain, order, end}
use Rattle.task_ast.specs.Position.{before}
use Rattle.task_ast.specs.laws.Runs.{plain_for}
use Rattle.task_ast.proofs.Runs.{order-is, before-is, end-is}
use Rattle.run_standing.specs.declared.standing.Standing.{Standing}
use Rattle.run_standing.specs.Standings.{Stands}
use Rattle.run_views.specs.meaning.Waits.{nexts_in}
use Rattle.run_views.proofs.Endings.{nexts-are}
use Rattle.run_views.specs.meaning.Deadlocks.{deadlock_text}
use Rattle.call_cases.specs.meaning.Work.{ToDo}
use Rattle.call_cases.specs.meaning.PlainText.{plain_ran}
use Rattle.explain_calls.specs.meaning.Fronts.{ending_line, last_run, front}

module _ (program : Program) (inputs : Inputs) (limits : Limits) (e : End) (is : e ≡ end program inputs limits) where
  abbrev told : End → List ℕ
  told x = deadlock_text program.heads (last_run program inputs limits) x

  pub front-is : ending_line e ++ told e ≡ front program inputs limits
  unfolding front
  front-is = ap (λ (x : End). ending_line x ++ told x) (is ∙ sym (end-is program inputs limits))

  pub front-finished : e ≡ Finished → ending_line e ≡ front program inputs limits
  front-finished ends = sym (append-nil (ending_line e)) ∙ ap (λ (x : End). ending_line e ++ told x) (sym ends) ∙ front-is

  pub front-spent : (position : ℕ) → e ≡ Spent position → ending_line e ≡ front program inputs limits
  front-spent position ends = sym (append-nil (ending_line e)) ∙ ap (λ (x : End). ending_line e ++ told x) (sym ends) ∙ front-is

-- what stands after all subthreads is what stands in the plain run there
pub stands-last : (program : Program) (inputs : Inputs) (limits : Limits) (position : ℕ) (standing : Standing)
    → position ≡ length (order program inputs limits)
    → Stands (before program inputs limits position).table (before program inputs limits position).points standing
    → (standing.owners.items ≡ (last_run program inputs limits).owners) × (standing.nexts.items ≡ nexts_in (last_run program inputs limits))
stands-last program inputs limits position standing is stands =
    let there : before program inputs limits position ≡ plain_for program limits (last_run program inputs limits) =
    ap (before program inputs limits) (is ∙ ap length (sym (order-is program inputs limits)))
    ∙ sym (before-is program inputs limits (length (plain_order program inputs limits))) in (
      stands.owners ∙ ap (λ (here : Plain). here.table.owners) there,
      stands.nexts ∙ (ap (λ (here : Plain). map (λ seat. seat.next) here.table.seats) there ∙ nexts-are (last_run program inputs limits).threads),
    )

-- how the run of a work ends
pub ran-end : (work : ToDo) → end work.program work.inputs work.limits ≡ (plain_ran work).end
unfolding plain_ran
ran-end work = sym (end-is work.program work.inputs work.limits)
