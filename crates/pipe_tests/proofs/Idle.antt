-- A task without code fits.
use Rattle.std.proofs.Common.{◌≡◌, ℕ, Bool, true, List, [], ◌∷◌, length, map, None, IfSome, refl, sym, ap, ◌∙◌, subst, arith}
use Rattle.std.specs.Prelude.{All, slice_get}
use Rattle.std.specs.List.Sorted.{IsStrictlyIncreasing}
use Rattle.task_ast.specs.declared.sync.SyncOp.TheVariants as sync
use Rattle.task_ast.specs.meaning.Body.{Body, follow, body}
use Rattle.task_ast.specs.Body.{after_turn}
use Rattle.task_ast.specs.laws.Keeps.{AllName}
use Rattle.task_ast.specs.meaning.Under.{under_lock, is_under}
use Rattle.task_ast.proofs.Bodies.{body_step}
use Rattle.record_store.specs.declared.given.Bundle.{Bundle}
use Rattle.record_store.specs.Lent.{lock_in}
use Rattle.task_code.specs.Flat.{code_of}
use Rattle.task_code.specs.Instructions.{Instr}
use Rattle.task_code.specs.Reading.{Place, code_body, code_size, code_step, instrs_of, step_instr}
use Rattle.task_code.proofs.CodeSizes.{code_sized}
use Rattle.subthread.specs.declared.task.Work.{Work}
use Rattle.subthread.specs.declared.task.Task.{Task}
use Rattle.task_ast.specs.SyncOps.{IsNumbered}
use Rattle.subthread.specs.Tasks.{actions_from, place_of, under_of, Fits}
use Rattle.subthread.specs.meaning.Flaws.{Spares}

-- it does nothing
does_nothing : (work : Work) (q : Place) (test : ℕ → Bool) → instrs_of (code_of work.code).tasks q.at.task ≡ []
    → AllName test (code_body (code_of work.code).tasks work.feeds work.turns q).actions
does_nothing work q test none =
    let tasks = (code_of work.code).tasks in
    let step = code_step tasks work.feeds in
    let size = code_size tasks in
    subst (λ (b : Body Place). AllName test b.actions)
    (sym (body_step step size (code_sized tasks work.feeds) work.turns q
    ∙ ap (λ (instrs : List Instr). follow q (step_instr work.feeds (slice_get instrs q.at.pc) q) (body step size work.turns)
    (after_turn step size work.turns)) none))
    tt

pub idle_fits : (work : Work) (task : Task) → task.given.bundles ≡ [] → task.begins.sync ≡ sync.Start
    → instrs_of (code_of work.code).tasks task.at.task ≡ [] → work.recheck ≡ None → Fits work task
idle_fits work task none start idle sound = record {
  rising = subst (λ (bundles : List Bundle). IsStrictlyIncreasing (map lock_in bundles)) (sym none) (λ k less. absurd (omega arith));
  sizes =
      subst (λ (bundles : List Bundle). All (λ (b : Bundle). length b.cells ≡ length (under_lock (under_of work) b.lock)) bundles)
      (sym none) (λ k d less. absurd (omega arith));
  numbered = subst IsNumbered (sym start) tt;
  within =
      subst (λ op. AllName (is_under (under_of work) (map lock_in task.given.bundles)) (actions_from work op task.child (place_of task)))
      (sym start)
      (does_nothing work (place_of task) (is_under (under_of work) (map lock_in task.given.bundles)) idle);
  spared = subst (λ recheck. IfSome recheck Spares) (sym sound) tt;
}

pub none_there : {A B : Type 0} (f : A → B) (xs : List A) → length xs ≡ 0 → map f xs ≡ []
none_there f [] none = refl
none_there f (x ∷ xs) none = absurd (omega (arith, none))
