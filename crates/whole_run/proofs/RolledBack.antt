-- What copies undo stands after a rollback. It goes back to the open cut of the position that is struck. Where there is a checkpoint,
-- that is a copy of the fold before the cut; where there is none, no position of the block was posted, so that nothing from the cut on is
-- applied and the store is that fold already. The checkpoints at cuts that are not after it stay copies, and those after it are given up.
-- No position from the cut on is posted at its new attempt, so that the blocks that need a checkpoint are those that have kept theirs.
use Rattle.std.proofs.Common.{◌≡◌, inl, inr, ℕ, ◌-◌, ◌<◌, ◌≤◌, Bool, true, false, List, length, All, Contains, Option, Some, None, refl, sym, ap, subst, ◌∙◌, arith, min}
use Rattle.std.specs.Prelude.{unwrap_or}
use Rattle.std.specs.List.Sorted.{IsStrictlyIncreasing}
use Rattle.std.proofs.lemmas.Bool.{cases_lt, both_ways}
use Rattle.std.proofs.lemmas.List.Elements.{All-weaker, All-contains, All-contains_itself, Contains-append_left, Contains-append_cases}
use Rattle.gp_base.specs.declared.fault.Fault.{Fault}
use Rattle.gp_base.specs.declared.journal.Event.TheVariants as event
use Rattle.task_ast.specs.meaning.State.{State}
use Rattle.task_ast.specs.meaning.Table.{numbers}
use Rattle.task_ast.specs.meaning.Plain.{Subthread}
use Rattle.dependence.specs.meaning.Dependents.{is_member}
use Rattle.dependence.specs.meaning.Restarts.{Dependence, struck_next}
use Rattle.dependence.specs.meaning.Journal.{Stage, happens, restarted, Allowed}
use Rattle.dependence.specs.Standing.{present}
use Rattle.dependence.specs.meaning.Runs.{dependence_of}
use Rattle.dependence.specs.Histories.{HasCells}
use Rattle.dependence.proofs.Struck.{struck-live}
use Rattle.rollback.specs.meaning.Cuts.{cut_at, cuts_of, back, rolling_of}
use Rattle.rollback.specs.States.{HeldStands, IsCopy, held_restarted}
use Rattle.rollback.specs.Driving.{RollsBack}
use Rattle.rollback.proofs.Backs.{cut-low, unredone}
use Rattle.rollback.proofs.Standing.{struck-cut}
use Rattle.rollback.proofs.States.{happens-held, back-copy, back-same}
use Rattle.rollback.proofs.Rolled.{rolls-back}
use Rattle.record_store.specs.Stored.{Stored, state_of, IsAllHome}
use Rattle.reorder_list.specs.declared.entry.Entry.{Entry}
use Rattle.reorder_list.specs.Entries.{with_change, raised_entry}
use Rattle.reorder_list.specs.Stages.{EntriesStand}
use Rattle.whole_run.specs.declared.recovery.Recovery.TheVariants.{Rollback}
use Rattle.whole_run.specs.declared.parts.backing.Backup.{Backup}
use Rattle.whole_run.specs.declared.parts.backing.Checkpoint.{Checkpoint}
use Rattle.whole_run.specs.inner.Backed.{held_of, open_cut, HasCut, AreLive, IsWhole, StandsBy, IsCheckpoint, HasCheckpoints, CopiesStand}
use Rattle.whole_run.specs.inner.Backing.{IsRestored, DropsAfter}
use Rattle.whole_run.proofs.CutRows.{rising-front, cuts_in, cuts-append, live-front}
use Rattle.whole_run.proofs.EntryLines.{lines-kept}
use Rattle.whole_run.proofs.Checkpoints.{StaysShaped, held-as, checkpoint-kept}
use Rattle.whole_run.proofs.OpenBlocks.{cut-is, none-applied}

module _ (run : List Subthread) (faults : List Fault) (start : State) (cells : HasCells start) (every : ℕ) (at : Stage)
    (stands : StandsBy run faults (Rollback every) at) (entries : List Entry) (store : Stored) (backup : Backup)
    (copies : CopiesStand run faults start every at entries store backup) (entries_are : EntriesStand run at entries) where
  abbrev cuts : ℕ → Bool
  cuts = cuts_of every run

  abbrev rolled : Dependence
  rolled = rolling_of cuts run

  module _ (number struck cut : ℕ)
      (allowed : Allowed rolled faults at (event.Restart number))
      (next : struck_next rolled faults at.progress ≡ Some struck) (opens : open_cut every entries struck ≡ Some cut) where
    abbrev behind : Stage
    behind = happens rolled faults at (event.Restart number)

    issued : struck < at.progress.front
    issued = (struck-live rolled faults at.progress struck next).0

    unretired : at.retired ≤ struck
    unretired =
        let low = struck-cut cuts (dependence_of run) faults at struck stands.0 next in
        let under = cut-low cuts struck in
        omega arith

    pub rolled-cut : cut ≡ cut_at cuts struck
    rolled-cut = cut-is run faults start cells every at stands entries store backup copies entries_are struck cut unretired issued opens

    pub rolled-redo : numbers cut (at.progress.front - cut) ≡ back cuts struck at.progress.front
    rolled-redo = ap (λ c. numbers c (at.progress.front - c)) rolled-cut

    left : RollsBack at behind (cut_at cuts struck)
    left = rolls-back cuts (dependence_of run) faults at stands.0 number struck next

    module _ (o : Option Stored) (restored : IsRestored backup.checkpoints.items cut (length store.threads) o) where
      -- the store is what it was at the cut
      state-back : state_of (unwrap_or o store) ≡ (held_restarted run faults start cuts at (Some struck) (held_of store entries)).state
      state-back = go o restored
        where
          go : (o : Option Stored) → IsRestored backup.checkpoints.items cut (length store.threads) o
              → state_of (unwrap_or o store) ≡ (held_restarted run faults start cuts at (Some struck) (held_of store entries)).state
          go None none =
              sym (back-same run faults start cuts at (held_of store entries) struck copies.held
              (let under = cut-low cuts struck in let front = issued in omega arith)
              (λ q from. none-applied run faults start cells every at stands entries store backup copies entries_are struck cut unretired
              issued opens none q (subst (λ c. c ≤ q) (sym rolled-cut) from)))
          go (Some s) is =
              is.slots.state
              ∙ sym (back-copy run faults start cuts at (held_of store entries) struck (state_of is.checkpoint.store)
              (subst (λ c. IsCopy run faults start at c (state_of is.checkpoint.store)) (is.at_cut ∙ rolled-cut)
              (All-contains (IsCheckpoint run faults start every at store) backup.checkpoints.items is.checkpoint copies.are
              is.there).copy))

      pub stays-back : StaysShaped store (unwrap_or o store)
      stays-back = go o restored
        where
          go : (o : Option Stored) → IsRestored backup.checkpoints.items cut (length store.threads) o
              → StaysShaped store (unwrap_or o store)
          go None none = record { threads = omega arith; cells = refl; under = refl; away = refl }
          go (Some s) is =
              let shape =
              (All-contains (IsCheckpoint run faults start every at store) backup.checkpoints.items is.checkpoint copies.are is.there).shape
              in
              record {
                threads = is.wide;
                cells = ap length is.slots.cells ∙ shape.cells;
                under = is.slots.under ∙ shape.under;
                away = ap length is.slots.away ∙ shape.away;
              }

      -- and all locks are at home, if they were
      pub home-back : IsAllHome store → IsAllHome (unwrap_or o store)
      home-back home = go o restored
        where
          go : (o : Option Stored) → IsRestored backup.checkpoints.items cut (length store.threads) o → IsAllHome (unwrap_or o store)
          go None none = home
          go (Some s) is =
              subst (All (λ away. away ≡ false)) (sym is.slots.away)
              (All-contains (IsCheckpoint run faults start every at store) backup.checkpoints.items is.checkpoint copies.are
              is.there).shape.home

      module _ (redo : List ℕ) (redo_is : redo ≡ numbers cut (at.progress.front - cut)) where
        abbrev raised : List Entry
        raised = with_change (λ q. is_member q redo) (raised_entry at.progress.front) entries

        held-restarted : HeldStands run faults start behind (held_restarted run faults start cuts at (Some struck) (held_of store entries))
        held-restarted =
            subst (λ o. HeldStands run faults start behind (held_restarted run faults start cuts at o (held_of store entries))) next
            (happens-held run faults start cuts cells at (event.Restart number) (held_of store entries) stands.0 copies.held allowed)

        same-front : behind.progress.front ≡ at.progress.front
        same-front = ap (λ o. (restarted rolled at o).progress.front) next

        same-retired : behind.retired ≡ at.retired
        same-retired = ap (λ o. (restarted rolled at o).retired) next

        -- what is applied still lies before the cut
        still-before : (q : ℕ) → behind.applied q ≡ true → q < cut_at cuts struck
        still-before q is =
            elim (cases_lt q (cut_at cuts struck)) [
              | inl before ↦ before
              | inr from ↦
                  absurd
                  (both_ways (behind.applied q) (left.unapplied q from
                  (let below = held-restarted.below q is in let same = same-front in omega arith)) is)
            ]

        held-back : HeldStands run faults start behind (held_of (unwrap_or o store) raised)
        held-back =
            held-as run faults start cells every behind (held_restarted run faults start cuts at (Some struck) (held_of store entries))
            (held_of (unwrap_or o store) raised)
            state-back
            (λ q low is.
            lines-kept (λ r. is_member r redo) at.progress.front entries q
            (ap (is_member q) (redo_is ∙ rolled-redo) ∙ unredone cuts struck at.progress.front q (still-before q is)))
            held-restarted

        pub copies-rolled : (mid backup' : Backup) → DropsAfter cut backup mid → backup' ≡ record mid { whole = min mid.whole cut }
            → CopiesStand run faults start every behind raised (unwrap_or o store) backup'
        copies-rolled mid backup' drops backup_is =
            record {
              held = held-back;
              whole = subst (IsWhole behind) (sym (ap (λ (b : Backup). b.whole) backup_is ∙ ap (λ whole. min whole cut) drops.whole)) whole;
              are = subst (λ (b : Backup). All (IsCheckpoint run faults start every behind (unwrap_or o store)) b.checkpoints.items)
                  (sym backup_is)
                  (All-weaker (Contains mid.checkpoints.items) (IsCheckpoint run faults start every behind (unwrap_or o store)) are
                  mid.checkpoints.items (All-contains_itself mid.checkpoints.items));
              rising = subst (λ (b : Backup). IsStrictlyIncreasing (cuts_in b.checkpoints.items)) (sym backup_is)
                  (rising-front (cuts_in mid.checkpoints.items) (cuts_in drops.rest)
                  (subst IsStrictlyIncreasing (ap cuts_in drops.split ∙ cuts-append mid.checkpoints.items drops.rest) copies.rising));
              has = subst (λ (b : Backup). HasCheckpoints run faults start every behind b.checkpoints.items) (sym backup_is) has;
              live = subst (λ (b : Backup). AreLive behind.retired b.checkpoints.items) (sym backup_is)
                  (subst (λ r. AreLive r mid.checkpoints.items) (sym same-retired)
                  (live-front at.retired mid.checkpoints.items drops.rest
                  (subst (AreLive at.retired) drops.split copies.live)));
            }
          where
            whole : IsWhole behind (min backup.whole cut)
            whole =
                record {
                  below = λ q less.
                      left.keeps_applied q (let here = rolled-cut in omega arith) ∙ copies.whole.below q (omega arith);
                  issued = (let most = copies.whole.issued in let same = same-front in omega arith);
                  next = elim (cases_lt backup.whole cut) [
                    | inl less ↦
                        subst (λ n. behind.applied n ≡ false) (let least : backup.whole ≡ min backup.whole cut = omega arith in least)
                        (left.keeps_applied backup.whole (let here = rolled-cut in omega arith) ∙ copies.whole.next)
                    | inr most ↦
                        subst (λ n. behind.applied n ≡ false) (let least : cut ≡ min backup.whole cut = omega arith in least)
                        (left.unapplied cut (let here = rolled-cut in omega arith)
                        (let here = rolled-cut in let under = cut-low cuts struck in let front = issued in omega arith))
                  ];
                }

            was : (checkpoint : Checkpoint) → Contains mid.checkpoints.items checkpoint → Contains backup.checkpoints.items checkpoint
            was checkpoint there =
                subst (λ items. Contains items checkpoint) (sym drops.split)
                (Contains-append_left mid.checkpoints.items drops.rest checkpoint there)

            are : (checkpoint : Checkpoint) → Contains mid.checkpoints.items checkpoint
                → IsCheckpoint run faults start every behind (unwrap_or o store) checkpoint
            are checkpoint there =
                checkpoint-kept run faults start cells every at stands entries store backup copies (event.Restart number) allowed
                (unwrap_or o store) stays-back checkpoint
                (λ other is.
                (let same : struck ≡ other = (let both = sym next ∙ is in cc both) in
                let here = rolled-cut in
                let most = All-contains (λ (c : Checkpoint). c.cut ≤ cut) mid.checkpoints.items checkpoint drops.kept there in
                subst (λ s. checkpoint.cut ≤ cut_at cuts s) same (omega arith)))
                (All-contains (IsCheckpoint run faults start every at store) backup.checkpoints.items checkpoint copies.are
                (was checkpoint there))

            has : HasCheckpoints run faults start every behind mid.checkpoints.items
            has q low posted =
                elim (cases_lt q (cut_at cuts struck)) [
                  | inl before ↦ kept before (copies.has q (subst (λ r. r ≤ cut_at cuts q) same-retired low) (still before))
                  | inr from ↦ absurd (left.unposted q from (stands.0.stands.posted_low q (present behind q) posted-before).0 posted)
                ]
              where
                posted-before : Contains at.posted (q, present behind q)
                posted-before = subst (λ pairs. Contains pairs (q, present behind q)) (ap (λ o. (restarted rolled at o).posted) next) posted

                still : q < cut_at cuts struck → Contains at.posted (q, present at q)
                still before = subst (λ a. Contains at.posted (q, a)) (left.keeps_attempt q before) posted-before

                kept : q < cut_at cuts struck → HasCut backup.checkpoints.items (cut_at cuts q)
                    → HasCut mid.checkpoints.items (cut_at cuts q)
                kept before old =
                    elim (Contains-append_cases mid.checkpoints.items drops.rest old.0
                    (subst (λ items. Contains items old.0) drops.split old.1)) [
                      | inl there ↦ (old.0, there, old.2)
                      | inr gone ↦
                          absurd
                          (let past = All-contains (λ (c : Checkpoint). cut < c.cut) drops.rest old.0 drops.dropped gone in
                          let same = old.2 in
                          let here = rolled-cut in
                          let under = cut-low cuts q in
                          omega arith)
                    ]
