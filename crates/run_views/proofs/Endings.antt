-- What stands where a run has ended.
use Rattle.std.proofs.Common.{◌≡◌, ◌≤◌, ℕ, zero, suc, List, [], ◌∷◌, ◌++◌, Some, Result, Ok, Err, OnOk, length, map, refl, sym, ap, ap₂, ◌∙◌, arith}
use Rattle.std.proofs.lemmas.List.{length-map}
use Rattle.gp_base.specs.declared.feed.Inputs.{Inputs}
use Rattle.gp_base.specs.declared.limits.Limits.{Limits}
use Rattle.gp_base.specs.declared.limits.TheConstants.{MOST_SUBTHREADS}
use Rattle.task_ast.specs.declared.tree.Head.{Head}
use Rattle.task_ast.specs.meaning.Tree.{Program}
use Rattle.task_ast.specs.meaning.Run.{Thread, Run, plain_order, plain_before, plain_end}
use Rattle.task_ast.specs.Plain.{Plain, tree_machine, move, opening, order, last_state}
use Rattle.task_ast.specs.Position.{before}
use Rattle.task_ast.specs.meaning.Repeat.{Move, Goes, Ends, steps_from, steps, state_from, state_after}
use Rattle.task_ast.specs.laws.Runs.{seat_for, plain_for}
use Rattle.task_ast.proofs.PlainRuns.{count_law}
use Rattle.task_ast.proofs.Runs.{order-is, before-is, end-is}
use Rattle.one_thread.specs.declared.run.PlainRun.{PlainRun}
use Rattle.one_thread.specs.PlainRuns.{IsPlainRun, shown}
use Rattle.run_standing.specs.declared.standing.Standing.{Standing}
use Rattle.run_standing.specs.Standings.{Stands}
use Rattle.run_views.specs.meaning.Waits.{nexts_in}
use Rattle.run_views.specs.meaning.Deadlocks.{standing_text}

module _ {A S E : Type 0} (moves : A → Move A S E) where
  -- all steps lead where more of them would lead
  after_all : (n : ℕ) (a : A) → state_after moves (length (steps moves n a)) a ≡ state_after moves n a
  unfolding steps state_after
  after_all zero a = refl
  after_all (suc n) a = go (moves a) refl (after_all n)
    where
      go : (m : Move A S E) → moves a ≡ m → ((b : A) → state_after moves (length (steps moves n b)) b ≡ state_after moves n b)
          → state_after moves (length (steps_from moves m (steps moves n))) a ≡ state_from moves a m (state_after moves n)
      go (Goes s b) is again = ap (λ m. state_from moves a m (state_after moves (length (steps moves n b)))) is ∙ again b
      go (Ends e) is again = refl

module _ (program : Program) (inputs : Inputs) (limits : Limits) (run : PlainRun) (is : IsPlainRun program inputs limits run) where
  -- the code's run shows the subthreads of the plain run, and ends as it does
  pub same_order : run.order ≡ map shown (plain_order program inputs limits)
  same_order = is.order ∙ ap (map shown) (sym (order-is program inputs limits))

  pub same_end : run.end ≡ plain_end program inputs limits
  same_end = is.end ∙ sym (end-is program inputs limits)

  -- the code's run has as many subthreads as the plain run, and no more than are allowed
  pub same_count : length run.order ≡ length (order program inputs limits)
  same_count = ap length is.order ∙ length-map (order program inputs limits) shown

  pub most_steps : length run.order ≤ limits.subthreads
  most_steps =
      let count : length (order program inputs limits) ≤ limits.subthreads =
      count_law (tree_machine program inputs limits) program inputs limits in
      let same = same_count in
      omega (arith, count, same)

  pub few-steps : limits.subthreads ≤ MOST_SUBTHREADS → length run.order ≤ 200000
  few-steps few = let most = most_steps in omega (arith, most, few)

-- a run stands after all its subthreads as it stands at its end
before_end : (program : Program) (inputs : Inputs) (limits : Limits)
    → before program inputs limits (length (order program inputs limits)) ≡ last_state program inputs limits
before_end program inputs limits =
    after_all (move program inputs limits) (suc limits.subthreads) (opening program inputs limits)

-- what comes next in each thread is what its seat has
pub nexts-are : (threads : List Thread) → map (λ seat. seat.next) (map seat_for threads) ≡ map (λ (th : Thread). Some th.next) threads
nexts-are [] = refl
nexts-are (th ∷ threads) = ap (λ rest. Some th.next ∷ rest) (nexts-are threads)

-- so what is told of the threads there is told of them at its end
pub standing_at_end : (program : Program) (inputs : Inputs) (limits : Limits) (position : ℕ) (standing : Standing)
    → position ≡ length (order program inputs limits)
    → Stands (before program inputs limits position).table (before program inputs limits position).points standing
    → standing_text program.heads standing.owners.items standing.nexts.items
    ≡ standing_text program.heads (plain_before program inputs limits (suc limits.subthreads)).owners
    (nexts_in (plain_before program inputs limits (suc limits.subthreads)))
standing_at_end program inputs limits position standing is stands =
    let last : Run = plain_before program inputs limits (suc limits.subthreads) in
    let there : before program inputs limits position ≡ plain_for program limits last =
    ap (before program inputs limits) is ∙ (before_end program inputs limits ∙ sym (before-is program inputs limits (suc limits.subthreads))) in
    ap₂ (standing_text program.heads) stands.owners stands.nexts
    ∙ (ap (λ (here : Plain). standing_text program.heads here.table.owners (map (λ seat. seat.next) here.table.seats)) there
    ∙ ap (standing_text program.heads last.owners) (nexts-are last.threads))

-- so where it was told of the threads there, it was told of them at the end
module _ (program : Program) (inputs : Inputs) (limits : Limits) (position : ℕ) (standing : Standing)
    (is : position ≡ length (order program inputs limits))
    (stands : Stands (before program inputs limits position).table (before program inputs limits position).points standing) where
  told_then : (heads : List Head) → heads ≡ program.heads → (old now : List ℕ)
      → now ≡ old ++ standing_text heads standing.owners.items standing.nexts.items
      → now ≡ old ++ standing_text program.heads (plain_before program inputs limits (suc limits.subthreads)).owners
      (nexts_in (plain_before program inputs limits (suc limits.subthreads)))
  told_then heads same old now told =
      told ∙ (ap (λ h. old ++ standing_text h standing.owners.items standing.nexts.items) same
      ∙ ap (λ l. old ++ l) (standing_at_end program inputs limits position standing is stands))

  pub told_at_end : {A E : Type 0} (result : Result A E) (heads : List Head) → heads ≡ program.heads → (old now : List ℕ)
      → OnOk result (now ≡ old ++ standing_text heads standing.owners.items standing.nexts.items)
      → OnOk result (now ≡ old ++ standing_text program.heads (plain_before program inputs limits (suc limits.subthreads)).owners
      (nexts_in (plain_before program inputs limits (suc limits.subthreads))))
  told_at_end (Ok value) heads same old now told = told_then heads same old now told
  told_at_end (Err fault) heads same old now told = told
