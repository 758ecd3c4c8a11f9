-- Before a restart each position is run at some attempt, where that matters.
use Rattle.std.proofs.Common.{◌≡◌, inl, inr, ℕ, ◌<◌, Bool, true, false, [], ◌∷◌, sym, ap, subst, arith}
use Rattle.std.proofs.lemmas.List.Elements.{Contains-append_left}
use Rattle.gp_base.specs.declared.journal.Event.TheVariants as event
use Rattle.dependence.specs.meaning.Journal.{Stage}
use Rattle.reorder_list.specs.Stages.{AllTaken}
use Rattle.whole_run.specs.declared.recovery.Recovery.{Recovery}
use Rattle.whole_run.specs.declared.recovery.Recovery.TheVariants.{Selective, Rollback}
use Rattle.whole_run.specs.View.{View, now}
use Rattle.whole_run.specs.Gives.{Did, IsScoutedBy, IsScouted, NoneToPost}
use Rattle.whole_run.specs.inner.Rounds.{left, Onward, TakeGives}
use Rattle.whole_run.proofs.Events.{now-same, now-did, onward-most}
use Rattle.whole_run.proofs.Progress.{none-awaited}

-- where all were taken, what a restart needs of that is there
all-scouted : (recovery : Recovery) (at : Stage) → AllTaken at → IsScoutedBy recovery at
all-scouted Selective at all = all
all-scouted (Rollback every) at all = tt

-- and it stays so where all that were taken stay taken
still-scouted : (recovery : Recovery) (at later : Stage) → (AllTaken at → AllTaken later) → IsScoutedBy recovery at
    → IsScoutedBy recovery later
still-scouted Selective at later still scouted = still scouted
still-scouted (Rollback every) at later still scouted = tt

pub scouted-same : (before after : View) → after ≡ before → IsScouted before → IsScouted after
scouted-same before after same = subst IsScouted (sym same)

-- what was taken stays so
pub scouted-taken : (before after : View) (p attempt : ℕ) (applies : Bool) → Did before (event.Take p attempt applies) after
    → IsScouted before → IsScouted after
scouted-taken before after p attempt applies did scouted =
    subst (λ recovery. IsScoutedBy recovery (now after)) (sym (ap (λ view. view.batch.recovery) did.grown))
    (still-scouted before.batch.recovery (now before) (now after) still scouted)
  where
    still : AllTaken (now before) → AllTaken (now after)
    still all =
        subst AllTaken (sym (now-did before after (event.Take p attempt applies) did)) (λ q young below.
        let was = all q young below in
        (was.0, Contains-append_left (now before).taken ((p, attempt) ∷ []) (q, was.0) was.1))

-- while some position was never taken, one may be posted or a run comes back
pub scout-leaves : (first posted taken : View) (b : Bool) → ¬ IsScouted first → Onward first posted
    → NoneToPost posted 0 → TakeGives posted taken b → left taken < left first
scout-leaves first posted taken true unscouted went none less = let most = onward-most first posted went in omega arith
scout-leaves first posted taken false unscouted went none idle =
    subst (λ v. left v < left first) (sym idle.0)
    (elim went.moved [
      | inl less ↦ less
      | inr rests ↦ absurd (unscouted (all-scouted first.batch.recovery (now first)
          (subst AllTaken (now-same first posted went.batch rests.events)
          (λ p young below. none-awaited posted went.stands none idle.1 p below))))
    ])
