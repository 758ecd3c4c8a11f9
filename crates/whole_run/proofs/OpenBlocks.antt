-- A block of which no position was posted, and none has retired. All of it waited, and all that comes after it, so that nothing from its
-- cut on is applied; where all before it is, nothing is out, and a copy of the store is a checkpoint at its cut, which lies after the
-- others.
use Rattle.std.proofs.Common.{◌≡◌, inl, inr, ℕ, ◌<◌, ◌≤◌, Bool, true, false, List, [], ◌∷◌, ◌++◌, All, Contains, Some, refl, sym, ap, subst, ◌∙◌, arith}
use Rattle.std.specs.List.Sorted.{IsStrictlyIncreasing}
use Rattle.std.proofs.lemmas.Bool.{cases_lt, both_ways}
use Rattle.std.proofs.lemmas.List.Elements.{All-push, All-weaker, All-map, All-contains, All-contains_itself, Contains-append_left}
use Rattle.gp_base.specs.declared.fault.Fault.{Fault}
use Rattle.task_ast.specs.meaning.State.{State}
use Rattle.task_ast.specs.meaning.Plain.{Subthread}
use Rattle.dependence.specs.meaning.Journal.{Stage}
use Rattle.dependence.specs.Standing.{present}
use Rattle.dependence.specs.meaning.Runs.{dependence_of}
use Rattle.dependence.specs.Histories.{HasCells}
use Rattle.rollback.specs.meaning.Cuts.{cut_at, cuts_of}
use Rattle.rollback.proofs.Backs.{cut-low, cut-kept, cut-again}
use Rattle.rollback.proofs.Standing.{unbegun-applied, unbegun-out}
use Rattle.rollback.proofs.States.{copy-is}
use Rattle.record_store.specs.Stored.{Stored, IsAllHome}
use Rattle.reorder_list.specs.declared.entry.Entry.{Entry}
use Rattle.reorder_list.specs.Stages.{EntriesStand}
use Rattle.whole_run.specs.declared.recovery.Recovery.TheVariants.{Rollback}
use Rattle.whole_run.specs.declared.parts.backing.Backup.{Backup}
use Rattle.whole_run.specs.declared.parts.backing.Checkpoint.{Checkpoint}
use Rattle.whole_run.specs.Gives.{NoneOut}
use Rattle.whole_run.specs.inner.Backed.{held_of, open_cut, HasCut, AreLive, IsWhole, StandsBy, IsCheckpoint, CopiesStand}
use Rattle.whole_run.proofs.OpenCuts.{open-cut-is}
use Rattle.whole_run.proofs.CutRows.{rising-push, cuts_in, cuts-append, live-push}

module _ (run : List Subthread) (faults : List Fault) (start : State) (cells : HasCells start) (every : ℕ) (at : Stage)
    (stands : StandsBy run faults (Rollback every) at) (entries : List Entry) (store : Stored) (backup : Backup)
    (copies : CopiesStand run faults start every at entries store backup) (entries_are : EntriesStand run at entries) where
  abbrev cuts : ℕ → Bool
  cuts = cuts_of every run

  module _ (p cut : ℕ) (unretired : at.retired ≤ p) (issued : p < at.progress.front)
      (opens : open_cut every entries p ≡ Some cut) where
    pub cut-is : cut ≡ cut_at cuts p
    cut-is = (open-cut-is run at entries entries_are stands.1 every stands.2 p cut unretired issued opens).0

    low : at.retired ≤ cut
    low = (open-cut-is run at entries entries_are stands.1 every stands.2 p cut unretired issued opens).1

    low-here : at.retired ≤ cut_at cuts p
    low-here = subst (λ c. at.retired ≤ c) cut-is low

    module _ (fresh : ¬ HasCut backup.checkpoints.items cut) where
      unposted : (q : ℕ) → cut_at cuts q ≡ cut_at cuts p → ¬ Contains at.posted (q, present at q)
      unposted q same posted =
          fresh
          (subst (HasCut backup.checkpoints.items) (same ∙ sym cut-is)
          (copies.has q (subst (λ c. at.retired ≤ c) (sym same) low-here) posted))

      pub none-applied : (q : ℕ) → cut ≤ q → at.applied q ≡ false
      none-applied q from =
          unbegun-applied cuts (dependence_of run) faults at p stands.0 low-here unposted q (subst (λ c. c ≤ q) cut-is from)

      pub nothing-out : ((q : ℕ) → q < cut_at cuts p → at.applied q ≡ true) → NoneOut at
      nothing-out whole = unbegun-out cuts (dependence_of run) faults at p stands.0 low-here unposted whole

      -- the checkpoints lie before it
      before-it : (checkpoint : Checkpoint) → Contains backup.checkpoints.items checkpoint → checkpoint.cut < cut
      before-it checkpoint there =
          elim (cases_lt p checkpoint.cut) [
            | inl past ↦
                absurd
                (both_ways (at.applied p) (none-applied p (let here = cut-is in let below = cut-low cuts p in omega arith))
                (is.copy.whole p past))
            | inr within ↦
                (let here = cut-is in
                let own = is.is_cut in
                let kept = cut-kept cuts checkpoint.cut p (omega arith) in
                elim (cases_lt checkpoint.cut cut) [
                  | inl less ↦ less
                  | inr most ↦ absurd (fresh (checkpoint, there, (omega arith)))
                ])
          ]
        where
          is : IsCheckpoint run faults start every at store checkpoint
          is = All-contains (IsCheckpoint run faults start every at store) backup.checkpoints.items checkpoint copies.are there

      abbrev this : Checkpoint
      this = record { cut = cut; store = store }

      -- a copy of the store is a checkpoint then
      pub copies-opened : ((q : ℕ) → q < cut_at cuts p → at.applied q ≡ true) → IsAllHome store → (later : Backup)
          → later.whole ≡ backup.whole
          → later.checkpoints.items ≡ backup.checkpoints.items ++ this ∷ []
          → CopiesStand run faults start every at entries store later
      copies-opened whole home later whole_is same =
          record {
            held = copies.held;
            whole = subst (IsWhole at) (sym whole_is) copies.whole;
            are = subst (All (IsCheckpoint run faults start every at store)) (sym same)
                (All-push (IsCheckpoint run faults start every at store) backup.checkpoints.items this copies.are this-is);
            rising = subst (λ items. IsStrictlyIncreasing (cuts_in items)) (sym same)
                (subst IsStrictlyIncreasing (sym (cuts-append backup.checkpoints.items (this ∷ [])))
                (rising-push (cuts_in backup.checkpoints.items) cut copies.rising
                (All-map (λ c. c < cut) (λ (checkpoint : Checkpoint). checkpoint.cut) backup.checkpoints.items
                (All-weaker (Contains backup.checkpoints.items) (λ (checkpoint : Checkpoint). checkpoint.cut < cut) before-it
                backup.checkpoints.items (All-contains_itself backup.checkpoints.items)))));
            has = λ q under posted.
                (let old = copies.has q under posted in
                subst (λ items. HasCut items (cut_at cuts q)) (sym same)
                (old.0, Contains-append_left backup.checkpoints.items (this ∷ []) old.0 old.1, old.2));
            live = subst (AreLive at.retired) (sym same) (live-push at.retired backup.checkpoints.items this copies.live low);
          }
        where
          this-is : IsCheckpoint run faults start every at store this
          this-is =
              record {
                is_cut = ap (cut_at cuts) cut-is ∙ (cut-again cuts p ∙ sym cut-is);
                copy = copy-is run faults start at (held_of store entries) cut copies.held
                    (λ q before. whole q (subst (λ c. q < c) cut-is before)) none-applied;
                shape = record { cells = refl; under = refl; away = refl; home = home };
              }
