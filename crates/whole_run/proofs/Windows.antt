-- The entries, the store and what undoes after each event, whichever way the run recovers. The entries go on standing by the laws of
-- reorder_list, which hold over any dependence, and what undoes by Backings. The locks that are away are those of the entries that are
-- out: a post sends some, a result of the present attempt brings them home, and a restart or a rollback finds none away. What is out
-- stays ready, since posts wait by locks. Before the first post of a block of a run that rolls back nothing is out, so that a copy of the
-- store has all locks at home.
use Rattle.std.proofs.Common.{◌≡◌, ℕ, ℤ, zero, suc, nat_eq, true, false, get_or, Bool, ◌+◌, ◌-◌, ◌<◌, ◌≤◌, List, [], ◌∷◌, ◌++◌, length, Option, Some, None, refl, sym, ap, ◌∙◌, subst, arith, slice_get}
use Rattle.std.specs.Prelude.{All, unwrap_or, min}
use Rattle.std.proofs.lemmas.Bool.{both_ways, false_from_ne_true}
use Rattle.std.proofs.lemmas.Option.{slice_get_within, slice_get-get_or, get_or_from_slice_get}
use Rattle.std.proofs.lemmas.List.Elements.{All-push, All-tail}
use Rattle.gp_base.specs.declared.footprint.Footprint.{Footprint}
use Rattle.gp_base.specs.declared.journal.Event.{Event}
use Rattle.gp_base.specs.declared.journal.Event.TheVariants as event
use Rattle.task_ast.specs.declared.effect.Effect.{Effect}
use Rattle.task_ast.specs.Shaped.{IsAccepted}
use Rattle.task_ast.specs.meaning.Effect.{after, effect}
use Rattle.task_ast.specs.History.{old_of}
use Rattle.task_ast.specs.Damage.{damaged}
use Rattle.task_ast.specs.Members.{member_of}
use Rattle.task_ast.specs.laws.Keeps.{AllName}
use Rattle.task_ast.specs.meaning.Under.{is_under}
use Rattle.task_ast.specs.Under.{NamesHeld}
use Rattle.task_ast.specs.meaning.Table.{numbers}
use Rattle.task_ast.specs.Table.{Table}
use Rattle.task_ast.specs.meaning.Plain.{Subthread, foot_of}
use Rattle.task_ast.specs.Plain.{tree_machine}
use Rattle.task_ast.specs.Position.{threads_before}
use Rattle.task_ast.specs.laws.Threads.{with_child}
use Rattle.task_ast.specs.laws.Standing.{Stands}
use Rattle.task_ast.proofs.Layouts.{accepted_sizes}
use Rattle.task_ast.proofs.Positions.{step_is, forked_is}
use Rattle.task_ast.proofs.Standings.{agrees}
use Rattle.dependence.specs.meaning.Dependents.{is_member}
use Rattle.dependence.specs.meaning.Restarts.{struck_next}
use Rattle.dependence.specs.Restarts.{mask_of}
use Rattle.dependence.specs.meaning.Journal.{Stage, Allowed, MayPost, happens}
use Rattle.dependence.specs.Posting.{OutReady, posting_of}
use Rattle.dependence.specs.Standing.{present, StageStands, NamesIssued}
use Rattle.dependence.specs.Histories.{HasCells}
use Rattle.dependence.specs.Touching.{done_by, IsApart}
use Rattle.dependence.specs.Removal.{undone_part}
use Rattle.dependence.specs.RunBuffer.{members_at}
use Rattle.dependence.proofs.Keeping.{laid_law}
use Rattle.lock_checker.proofs.LocksHeld.{sound}
use Rattle.task_ast.specs.SyncOps.{joined_by}
use Rattle.record_store.specs.Given.{given_of, found_of}
use Rattle.record_store.specs.Lent.{marked}
use Rattle.record_store.specs.Stored.{Stored, state_of, Fits, SameShape, IsAllHome}
use Rattle.record_store.specs.Laws.{IsWithin}
use Rattle.record_store.proofs.Fitting.{within_law, effect_fits_law}
use Rattle.reorder_list.specs.declared.entry.Entry.{Entry}
use Rattle.reorder_list.specs.declared.entry.State.TheVariants.{Waiting, Out, Applied}
use Rattle.reorder_list.specs.Entries.{entry_at, with_change, with_change_at, out_entry, known_entry, applied_entry, raised_entry, histories_of}
use Rattle.reorder_list.specs.Stages.{IsFirst, EntriesStand}
use Rattle.reorder_list.proofs.Changes.{changed_where, all-changed}
use Rattle.reorder_list.proofs.Staged.{issue-stand, post-stand, take-stand, stale-stand, restart-event, retire-stand}
use Rattle.subthread.specs.declared.task.Done.{Done}
use Rattle.subthread.specs.Tasks.{task_of, effect_of}
use Rattle.subthread.specs.Joining.{IsTaskOf, Runs}
use Rattle.whole_run.specs.View.{Batch, program_in, run_in, dependence_in, locks_in, under_in, start_in}
use Rattle.whole_run.specs.declared.recovery.Recovery.TheVariants.{Selective, Rollback}
use Rattle.whole_run.specs.declared.parts.backing.Backup.{Backup}
use Rattle.whole_run.specs.Gives.{NoneHolds, NoneOut, IsBackBy, BlockIsOpen, HasWaited}
use Rattle.whole_run.specs.inner.Backed.{StandsBy, open_cut, HasCut, IsOpened}
use Rattle.whole_run.specs.inner.Backing.{AdvancesBy, IsRestored, DropsAfter, DropsBefore}
use Rattle.whole_run.specs.inner.Taken.{history_by}
use Rattle.whole_run.specs.inner.Kept.{IsPlaced, IsFit, IsHome, WindowStands}
use Rattle.whole_run.specs.inner.Locks.{IsLent, LocksStand, HasLocks}
use Rattle.whole_run.proofs.Checkpoints.{StaysShaped}
use Rattle.whole_run.proofs.Backings.{backed-issue, backed-post, backed-stale, backed-take, backed-restart, backed-retire, unbegun-out, backed-opened, redoes-rolled, shaped-rolled, backed-rolled}
use Rattle.whole_run.proofs.Locks.{out-is, locks-kept, locks-sent, locks-home, locks-raised, locks-retired, locks-pushed}
use Rattle.record_store.proofs.Marks.{length-marked}
use Rattle.whole_run.proofs.Ready.{slice_get_inside, stays-ready}

-- whether an entry is known before its result is applied or after
known-first : (p : ℕ) (foot : Footprint) (history : Option Effect) (lines : List (List ℤ)) (entries : List Entry)
    → with_change_at p (applied_entry history lines) (with_change_at p (known_entry foot) entries)
    ≡ with_change_at p (known_entry foot) (with_change_at p (applied_entry history lines) entries)
known-first p foot history lines [] = refl
known-first p foot history lines (x ∷ entries) = λ i. go (nat_eq x.pos p) refl i ∷ known-first p foot history lines entries i
  where
    go : (b : Bool) → nat_eq x.pos p ≡ b
        → changed_where (nat_eq (changed_where b (known_entry foot) x).pos p) (applied_entry history lines)
        (changed_where b (known_entry foot) x)
        ≡ changed_where (nat_eq (changed_where b (applied_entry history lines) x).pos p) (known_entry foot)
        (changed_where b (applied_entry history lines) x)
    go true here = rw here refl
    go false apart = rw apart refl

with-child : (child : Option ℕ) (n : ℕ) → n ≤ with_child child n
with-child None n = omega arith
with-child (Some c) n = omega arith

-- where no lock is lent, none is away
locks-none : (entries : List Entry) (away : List Bool) → ((l : ℕ) → ¬ IsLent entries l) → All (λ b. b ≡ false) away
    → LocksStand away entries
locks-none entries away none home l = ((λ is. absurd (lacks is)), λ lent. absurd (none l lent))
  where
    lacks : slice_get away l ≡ Some true → ⊥
    lacks is =
        let first = home l true (slice_get_within away l true is) in
        both_ways (get_or away l true) first (get_or_from_slice_get away l true true is)

-- there are no fewer threads later
module _ (batch : Batch) where
  abbrev pub threads : ℕ → ℕ
  threads p = threads_before (program_in batch) batch.inputs batch.limits p

  threads-grow : (p n : ℕ) → p + n ≤ length (run_in batch) → threads p ≤ threads (p + n)
  threads-grow p zero l = subst (λ q. threads p ≤ threads q) (let same : p ≡ p + 0 = omega arith in same) (omega arith)
  threads-grow p (suc n) l =
      let there = slice_get_inside (run_in batch) (p + n) (omega arith) in
      let step = step_is (tree_machine (program_in batch) batch.inputs batch.limits) (program_in batch) batch.inputs batch.limits
      (p + n) there.0 there.1 in
      let rest = threads-grow p n (omega arith) in
      let next : suc (p + n) ≡ p + suc n = omega arith in
      subst (λ q. threads p ≤ threads q) next (omega (arith, rest, step.threads, with-child there.0.child (threads (p + n))))

  pub threads-below : (p q : ℕ) → p ≤ q → q ≤ length (run_in batch) → threads p ≤ threads q
  threads-below p q l within =
      let sum : p + (q - p) ≡ q = omega arith in
      subst (λ n. threads p ≤ threads n) sum (threads-grow p (q - p) (omega arith))

module _ (batch : Batch) (fit : IsFit batch) where
  accepted : IsAccepted (program_in batch)
  accepted = fit.suits.code.accepted

  pub apart : IsApart (under_in batch)
  apart = laid_law (program_in batch).heads (accepted_sizes (program_in batch) accepted)

  pub names-held : NamesHeld (under_in batch) (run_in batch)
  names-held = sound (program_in batch) batch.inputs batch.limits accepted

  pub start-cells : HasCells (start_in batch)
  start-cells c = refl

  module _ (at : Stage) (stage : StageStands (dependence_in batch) batch.faults at)
      (stands : StandsBy (run_in batch) batch.faults batch.recovery at)
      (table : Table) (store : Stored) (backup : Backup) where
    module _ (entries : List Entry) (window : WindowStands batch at table entries store backup) where
      abbrev after_event : Event → Stage
      after_event e = happens (dependence_in batch) batch.faults at e

      abbrev AllowedNow : Event → Type 0
      AllowedNow e = Allowed (dependence_in batch) batch.faults at e

      -- before what is out all that is in conflict by locks stays applied
      event-ready : (e : Event) → AllowedNow e → HasWaited batch.recovery (run_in batch) at e → OutReady (locks_in batch) (after_event e)
      event-ready e allowed waited = stays-ready (run_in batch) batch.faults batch.recovery at stage e allowed waited window.ready

      placed-changed : (test : ℕ → Bool) (change : Entry → Entry) → ((x : Entry) → IsPlaced batch x → IsPlaced batch (change x))
          → All (IsPlaced batch) (with_change test change entries)
      placed-changed test change new = all-changed (IsPlaced batch) (IsPlaced batch) test change entries (λ x h. h) new window.placed

      -- where nothing is out, no lock is away
      none-lent : NoneOut at → (l : ℕ) → ¬ IsLent entries l
      none-lent none l lent =
          none lent.position (present at lent.position)
          (out-is (run_in batch) at entries window.entries_are batch.faults stage lent.position lent.entry lent.there lent.out)

      home-then : NoneOut at → IsAllHome store
      home-then none k d less =
          false_from_ne_true (get_or store.away k d)
          (λ is. none-lent none k ((window.locks k).0 (slice_get-get_or store.away k d less ∙ ap Some is)))

      -- after an issue, where the store may have one thread more
      module _ (p : ℕ) (e : Entry) (names : NamesIssued at) (allowed : AllowedNow (event.Issue p)) (first : IsFirst (run_in batch) p e)
          (placed : IsPlaced batch e) (next : Table) (later : Stored) (home : IsHome batch next later)
          (state : state_of later ≡ state_of store)
          (wider : length store.threads ≤ length later.threads) (away : later.away ≡ store.away) where
        pub window-issue : WindowStands batch (after_event (event.Issue p)) next (entries ++ e ∷ []) later backup
        window-issue =
            record {
              entries_are = issue-stand (run_in batch) at entries window.entries_are (dependence_in batch) batch.faults p e names
                  allowed first;
              backed = backed-issue (run_in batch) batch.faults (start_in batch) start-cells at batch.recovery stands entries store backup
                  window.backed p e later allowed first.fresh state
                  (record {
                    threads = wider;
                    cells = home.cells ∙ sym window.home.cells;
                    under = home.under ∙ sym window.home.under;
                    away = ap length away;
                  });
              placed = All-push (IsPlaced batch) entries e window.placed placed;
              locks = subst (λ away. LocksStand away (entries ++ e ∷ [])) (sym away)
                  (locks-pushed entries store.away e window.locks first.fresh);
              ready = event-ready (event.Issue p) allowed tt;
              home = home;
            }

      -- before the first post of a block nothing is out, so that each lock is at home
      module _ (every : ℕ) (rolls : batch.recovery ≡ Rollback every) (p cut : ℕ)
          (may : MayPost (posting_of (run_in batch)) at p (present at p))
          (is_open : BlockIsOpen batch.recovery (run_in batch) at p) (opens : open_cut every entries p ≡ Some cut)
          (fresh : ¬ HasCut backup.checkpoints.items cut) where
        pub opened-home : IsAllHome store
        opened-home =
            home-then
            (unbegun-out (run_in batch) batch.faults (start_in batch) start-cells at every entries store backup window.entries_are p cut
            may.unretired may.issued opens fresh batch.recovery rolls (stands, window.backed) is_open)

        -- so a copy of the store is a checkpoint
        pub window-opened : (later : Backup) → later.whole ≡ backup.whole
            → later.checkpoints.items ≡ backup.checkpoints.items ++ record { cut = cut; store = store } ∷ []
            → WindowStands batch at table entries store later
        window-opened later whole checkpoints =
            record {
              entries_are = window.entries_are;
              backed = backed-opened (run_in batch) batch.faults
                  (start_in batch) start-cells at every entries store backup window.entries_are
                  p cut may.unretired may.issued opens fresh batch.recovery rolls
                  (stands, window.backed) is_open opened-home later whole checkpoints;
              placed = window.placed;
              locks = window.locks;
              ready = window.ready;
              home = window.home;
            }

      -- after a post, where the locks of the entry go out
      module _ (p attempt : ℕ) (allowed : AllowedNow (event.Post p attempt))
          (waited : HasWaited batch.recovery (run_in batch) at (event.Post p attempt))
          (opened : IsOpened batch.recovery entries p backup) (e : Entry) (there : entry_at entries p ≡ Some e) (waits : e.state ≡ Waiting)
          (exist : HasLocks store.away e) where
        pub window-post : WindowStands batch (after_event (event.Post p attempt)) table (with_change_at p out_entry entries)
            (record store { away = marked e.held true store.away }) backup
        window-post =
            record {
              entries_are = post-stand (run_in batch) at entries window.entries_are (dependence_in batch) batch.faults p attempt
                  allowed;
              backed = backed-post (run_in batch) batch.faults (start_in batch) start-cells at batch.recovery stands entries store backup
                  window.backed p attempt (record store { away = marked e.held true store.away }) allowed window.entries_are opened refl
                  (record { threads = omega arith; cells = refl; under = refl; away = length-marked e.held true store.away });
              placed = placed-changed (λ q. nat_eq q p) out_entry (λ x h. h);
              locks = locks-sent entries store.away p e window.locks there waits exist;
              ready = event-ready (event.Post p attempt) allowed waited;
              home = record {
                threads = window.home.threads;
                cells = window.home.cells;
                under = window.home.under;
                locks = length-marked e.held true store.away ∙ window.home.locks;
              };
            }

      -- after a result of another attempt
      pub window-stale : (p attempt : ℕ) (s : Subthread) (foot : Footprint) → slice_get (run_in batch) p ≡ Some s → foot ≡ foot_of s
          → AllowedNow (event.Take p attempt false) → (next : Table) → IsHome batch next store
          → WindowStands batch (after_event (event.Take p attempt false)) next (with_change_at p (known_entry foot) entries) store backup
      window-stale p attempt s foot there foot_is allowed next home =
          record {
            entries_are = stale-stand (run_in batch) at entries window.entries_are
                (dependence_in batch) batch.faults p attempt s foot there foot_is;
            backed = backed-stale (run_in batch) batch.faults (start_in batch) start-cells at batch.recovery stands entries store backup
                window.backed p attempt foot allowed;
            placed = placed-changed (λ q. nat_eq q p) (known_entry foot) (λ x h. h);
            locks = locks-kept (λ q. nat_eq q p) (known_entry foot) entries store.away (λ x. refl) (λ x. refl) (λ x. refl) window.locks;
            ready = event-ready (event.Take p attempt false) allowed tt;
            home = home;
          }

      -- what a subthread of a position that was issued did fits the store
      module _ (p : ℕ) (s : Subthread) (done : Done) (there : slice_get (run_in batch) p ≡ Some s) (below : p < at.progress.front)
          (task : IsTaskOf batch.work batch.inputs batch.limits p s (task_of batch.work done))
          (runs : Runs batch.work batch.inputs batch.limits p s done)
          (ring : Stands (program_in batch) batch.inputs batch.limits at.progress.front table) where
        within-threads : threads batch (suc p) ≤ length store.threads
        within-threads =
            let front = stage.front_low in
            let reached = threads-below batch (suc p) at.progress.front below front in
            let many = (agrees (tree_machine (program_in batch) batch.inputs batch.limits)
            (program_in batch) batch.inputs batch.limits at.progress.front table ring).threads in
            let home = window.home.threads in
            omega arith

        pub effect-fits : Fits store (effect_of batch.work done)
        effect-fits =
            let forked = forked_is (tree_machine (program_in batch) batch.inputs batch.limits)
            (program_in batch) batch.inputs batch.limits p s there in
            let step = step_is (tree_machine (program_in batch) batch.inputs batch.limits)
            (program_in batch) batch.inputs batch.limits p s there in
            let grown = with-child s.child (threads batch p) in
            let under = window.home.under in
            subst (Fits store) (sym runs.given)
            (effect_fits_law store s.held s.thread s.child s.actions (found_of (under_in batch) (task_of batch.work done).given)
            (task_of batch.work done).mask
            (subst (λ u. IsWithin u (length store.cells)) (sym under)
            (subst (IsWithin (under_in batch)) (sym window.home.cells)
            (within_law (program_in batch).heads (accepted_sizes (program_in batch) accepted))))
            (subst (λ u. AllName (is_under u s.held) s.actions) (sym under) (names-held p s there))
            (let low = forked.thread in let all = within-threads in let count = step.threads in omega arith)
            (λ c is. let last = forked.child c is in let low = forked.thread in let all = within-threads in
            let count : threads batch (suc p) ≡ suc (threads batch p) = step.threads ∙ ap (λ o. with_child o (threads batch p)) is in
            ((omega arith), λ same. (omega arith))))

        -- with what it was given of the store, it did what its position does there
        pub effect-fresh : (task_of batch.work done).mask ≡ mask_of batch.faults p (present at p)
            → (task_of batch.work done).given
            ≡ given_of (under_in batch) (state_of store) (task_of batch.work done).thread (joined_by (task_of batch.work done).begins.sync)
            (task_of batch.work done).held
            → effect_of batch.work done ≡ done_by (members_at (run_in batch) batch.faults at p) (state_of store)
        effect-fresh mask given =
            runs.on (state_of store) given
            ∙ ap (λ v. damaged v (effect s.thread s.begins.sync s.child s.actions (state_of store))) mask
            ∙ ap (λ o. done_by (member_of (mask_of batch.faults p (present at p)) o) (state_of store)) (sym there)

      -- after a result of the present attempt
      module _ (p attempt : ℕ) (s : Subthread) (foot : Footprint) (position : slice_get (run_in batch) p ≡ Some s)
          (foot_is : foot ≡ foot_of s)
          (allowed : AllowedNow (event.Take p attempt true)) (e : Entry) (there : entry_at entries p ≡ Some e) (out : e.state ≡ Out)
          (done : Effect)
          (fresh : done ≡ done_by (members_at (run_in batch) batch.faults at p) (state_of store)) (next : Table) (later : Stored)
          (home : IsHome batch next later) (state : state_of later ≡ after done (state_of store)) (shape : SameShape store later)
          (away : later.away ≡ marked e.held false store.away) (back : Fits later (old_of done (state_of store))) where
        abbrev taken : Entry → Entry
        taken = applied_entry (history_by batch.recovery (old_of done (state_of store))) done.prints

        pub window-take : (backup' : Backup)
            → AdvancesBy batch.recovery (with_change_at p taken (with_change_at p (known_entry foot) entries)) backup backup'
            → WindowStands batch (after_event (event.Take p attempt true)) next
            (with_change_at p taken (with_change_at p (known_entry foot) entries))
            later backup'
        window-take backup' counted =
            record {
              entries_are = entries_are;
              backed = backed-take (run_in batch) batch.faults (start_in batch) start-cells at batch.recovery stands entries store backup
                  window.backed p attempt e foot done later backup' allowed there fresh state
                  (record {
                    threads = (let same = shape.threads in omega arith);
                    cells = shape.cells;
                    under = shape.under;
                    away = ap length away ∙ length-marked e.held false store.away;
                  })
                  back entries_are counted;
              placed = all-changed (IsPlaced batch) (IsPlaced batch) (λ q. nat_eq q p) taken (with_change_at p (known_entry foot) entries)
                  (λ x h. h) (λ x h. h) (placed-changed (λ q. nat_eq q p) (known_entry foot) (λ x h. h));
              locks = subst (LocksStand later.away) (sym (known-first p foot history done.prints entries))
                  (locks-kept (λ q. nat_eq q p) (known_entry foot) (with_change_at p taken entries) later.away (λ x. refl) (λ x. refl)
                  (λ x. refl)
                  (subst (λ away. LocksStand away (with_change_at p taken entries)) (sym away)
                  (locks-home (run_in batch) batch.faults at entries store.away p e history done.prints stage window.ready
                  window.entries_are
                  window.locks there out)));
              ready = event-ready (event.Take p attempt true) allowed tt;
              home = home;
            }
          where
            history : Option Effect
            history = history_by batch.recovery (old_of done (state_of store))

            entries_are : EntriesStand (run_in batch) (after_event (event.Take p attempt true))
                (with_change_at p taken (with_change_at p (known_entry foot) entries))
            entries_are =
                take-stand (run_in batch) at entries window.entries_are (dependence_in batch) batch.faults p attempt s foot position foot_is
                history done.prints allowed

      -- after a restart, which finds each lock at home
      pub window-restart : batch.recovery ≡ Selective → (number struck : ℕ) → AllowedNow (event.Restart number)
          → struck_next (dependence_in batch) batch.faults at.progress ≡ Some struck
          → NoneHolds (run_in batch) at → IsAllHome store → (later : Stored) → SameShape store later → later.away ≡ store.away
          → state_of later ≡ undone_part (histories_of entries) (λ q. is_member q ((dependence_in batch).redo struck at.progress.front))
          at.progress.front (state_of store)
          → WindowStands batch (after_event (event.Restart number)) table
          (with_change (λ q. is_member q ((dependence_in batch).redo struck at.progress.front)) (raised_entry at.progress.front) entries)
          later backup
      window-restart selective number struck allowed next none all_home later shape away state =
          record {
            entries_are = restart-event (run_in batch) at entries window.entries_are
                (dependence_in batch) batch.faults struck stage number next;
            backed = backed-restart (run_in batch) batch.faults
                (start_in batch) start-cells at batch.recovery selective stands entries store backup
                window.backed number struck later allowed next
                (record {
                  threads = (let same = shape.threads in omega arith);
                  cells = shape.cells;
                  under = shape.under;
                  away = ap length away;
                })
                state;
            placed = placed-changed part (raised_entry at.progress.front) (λ x h. h);
            locks = subst (λ away. LocksStand away (with_change part (raised_entry at.progress.front) entries)) (sym away)
                (locks-raised entries store.away part at.progress.front window.locks all_home);
            ready = event-ready (event.Restart number) allowed (subst (λ r. IsBackBy r (run_in batch) at) (sym selective) none);
            home = record {
              threads = (let many = window.home.threads in let same = shape.threads in omega arith);
              cells = shape.cells ∙ window.home.cells;
              under = shape.under ∙ window.home.under;
              locks = ap length away ∙ window.home.locks;
            };
          }
        where
          part : ℕ → Bool
          part q = is_member q ((dependence_in batch).redo struck at.progress.front)

      -- after a rollback, which finds nothing out
      module _ (every : ℕ) (rolls : batch.recovery ≡ Rollback every) (number struck cut : ℕ) (allowed : AllowedNow (event.Restart number))
          (next : struck_next (dependence_in batch) batch.faults at.progress ≡ Some struck)
          (opens : open_cut every entries struck ≡ Some cut) where
        -- it redoes all from the open cut on
        pub redo-is : numbers cut (at.progress.front - cut) ≡ (dependence_in batch).redo struck at.progress.front
        redo-is =
            redoes-rolled (run_in batch) batch.faults
            (start_in batch) start-cells at every entries store backup window.entries_are number struck
            cut opens batch.recovery rolls (stands, window.backed) (allowed, next)

        pub window-rolled : NoneOut at → (o : Option Stored) → IsRestored backup.checkpoints.items cut (length store.threads) o
            → (later : Stored)
            → later ≡ unwrap_or o store → (mid backup' : Backup) → DropsAfter cut backup mid
            → backup' ≡ record mid { whole = min mid.whole cut }
            → (redo : List ℕ) → redo ≡ numbers cut (at.progress.front - cut)
            → WindowStands batch (after_event (event.Restart number)) table
            (with_change (λ q. is_member q redo) (raised_entry at.progress.front) entries) later backup'
        window-rolled none o restored later later_is mid backup' drops backup_is redo redo_is =
            subst (λ s. WindowStands batch (after_event (event.Restart number)) table raised s backup') (sym later_is)
            (record {
              entries_are = subst
                  (λ list. EntriesStand (run_in batch) (after_event (event.Restart number))
                  (with_change (λ q. is_member q list) (raised_entry at.progress.front) entries))
                  (sym (redo_is ∙ redo-is))
                  (restart-event (run_in batch) at entries window.entries_are (dependence_in batch) batch.faults struck stage number next);
              backed = backed-rolled (run_in batch) batch.faults
                  (start_in batch) start-cells at every entries store backup window.entries_are number
                  struck cut opens o restored batch.recovery rolls (stands, window.backed)
                  (allowed, next) mid backup' drops backup_is redo redo_is;
              placed = placed-changed (λ q. is_member q redo) (raised_entry at.progress.front) (λ x h. h);
              locks = locks-raised entries (unwrap_or o store).away (λ q. is_member q redo) at.progress.front
                  (locks-none entries (unwrap_or o store).away (none-lent none) all_home) all_home;
              ready = event-ready (event.Restart number) allowed (subst (λ r. IsBackBy r (run_in batch) at) (sym rolls) none);
              home = record {
                threads = (let many = window.home.threads in let more = shaped.0.threads in omega arith);
                cells = shaped.0.cells ∙ window.home.cells;
                under = shaped.0.under ∙ window.home.under;
                locks = shaped.0.away ∙ window.home.locks;
              };
            })
          where
            raised : List Entry
            raised = with_change (λ q. is_member q redo) (raised_entry at.progress.front) entries

            shaped : StaysShaped store (unwrap_or o store) × (IsAllHome store → IsAllHome (unwrap_or o store))
            shaped =
                shaped-rolled (run_in batch) batch.faults
                (start_in batch) start-cells at every entries store backup window.entries_are number
                struck cut opens o restored batch.recovery rolls (stands, window.backed) (allowed, next)

            all_home : IsAllHome (unwrap_or o store)
            all_home = shaped.1 (home-then none)

    -- after a retirement
    pub window-retire : (e : Entry) (entries : List Entry) → WindowStands batch at table (e ∷ entries) store backup → e.state ≡ Applied
        → (backup' : Backup) → DropsBefore (at.retired + 1) backup backup'
        → WindowStands batch (happens (dependence_in batch) batch.faults at (event.Retire at.retired)) table entries store backup'
    window-retire e entries window applied backup' dropped =
        record {
          entries_are = retire-stand (run_in batch) (dependence_in batch) batch.faults at e entries window.entries_are;
          backed = backed-retire (run_in batch) batch.faults
              (start_in batch) start-cells at batch.recovery stands e entries store backup backup'
              window.entries_are window.backed dropped;
          placed = All-tail (IsPlaced batch) e entries window.placed;
          locks = locks-retired (run_in batch) at e entries store.away window.entries_are window.locks applied;
          ready = λ p attempt q out.
              window.ready p attempt q (record { posted = out.posted; untaken = out.untaken; present = out.present });
          home = window.home;
        }
