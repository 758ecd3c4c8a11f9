-- What an engine keeps while the next subthread is issued. What the rules of turns answer of the ring's table, they
-- answer of the run's own (RingIssues). A pass changes the table alone; an end, or a settle that comes next, changes
-- what is known; an issue adds an entry, and where a child starts. What was prepared before, a slot of the store and
-- the place, is for the thread that is ahead, which is the one that is issued.
use Rattle.std.proofs.Common.{◌≡◌, inl, inr, ℕ, suc, ◌+◌, ◌<◌, ◌≤◌, true, false, List, [], ◌∷◌, ◌++◌, length, Option, Some, None, is_some, option_map, get_or, refl, sym, ap, ◌∙◌, subst, arith, ◌⊎◌, Bool, cond, nat_eq}
use Rattle.std.specs.Prelude.{IsSome, slice_get, pos, ℤ}
use Rattle.std.specs.Option.{option_and_then, option_map_or}
use Rattle.std.proofs.lemmas.Option.{slice_get_within}
use Rattle.std.proofs.lemmas.Bool.{eqb-true, eq-eqb, false≢true}
use Rattle.gp_base.specs.declared.ending.End.{End}
use Rattle.gp_base.specs.declared.fault.Fault.{Fault}
use Rattle.gp_base.specs.declared.journal.Event.{Event}
use Rattle.gp_base.specs.declared.journal.Event.TheVariants as event
use Rattle.gp_base.specs.declared.journal.Restart.{Restart}
use Rattle.task_ast.specs.declared.sync.SyncOp.{SyncOp}
use Rattle.task_ast.specs.declared.sync.SyncOp.TheVariants as sync
use Rattle.task_ast.specs.declared.sync.Next.{Next}
use Rattle.task_ast.specs.Footprint.{lock_footprint}
use Rattle.task_ast.specs.meaning.Repeat.{Again, More, Done}
use Rattle.task_ast.specs.meaning.Table.{owned_from, is_settle}
use Rattle.task_ast.specs.Table.{Seat, Table, next_of, is_known_end}
use Rattle.token_order.specs.Spans.{Passes, no_pass, one_pass}
use Rattle.token_order.specs.Turned.{settling_in, is_let}
use Rattle.task_ast.specs.meaning.Turn.{child_of}
use Rattle.task_ast.specs.Turn.{Turn, Issue, Needs, Ended, turn, turns_left}
use Rattle.task_ast.proofs.Turns.{turn-IsFalling}
use Rattle.task_ast.specs.laws.Threads.{HasBegun, with_child, ahead}
use Rattle.task_ast.specs.laws.Standing.{IsIssuedBy}
use Rattle.task_ast.specs.meaning.Plain.{Subthread, start_point, task_at}
use Rattle.task_ast.specs.Plain.{tree_machine, lock_foot_of}
use Rattle.task_code.specs.Reading.{start_place}
use Rattle.task_code.proofs.Machines.{follows}
use Rattle.task_ast.proofs.TurnLaws.{pass_law, ahead_law}
use Rattle.task_ast.proofs.SeatLimits.{most_threads_law}
use Rattle.task_ast.proofs.PlainRuns.{count_law}
use Rattle.task_ast.proofs.IssuedTables.{length_push}
use Rattle.dependence.specs.meaning.Restarts.{NoneDue}
use Rattle.dependence.specs.meaning.Journal.{Stage, Allowed}
use Rattle.record_store.specs.Stored.{Stored, with_thread, state_of}
use Rattle.record_store.proofs.States.{slot_law}
use Rattle.record_store.proofs.Fitting.{wider_law}
use Rattle.reorder_list.specs.declared.entry.Entry.{Entry}
use Rattle.reorder_list.specs.Entries.{StandFrom, ComesNext}
use Rattle.reorder_list.specs.Stages.{IsFirst, buffer_of}
use Rattle.dependence.specs.RunBuffer.{RunStands}
use Rattle.rollback.specs.States.{HeldStands}
use Rattle.gp_base.specs.Reserved.{Reserved}
use Rattle.token_order.specs.View.{Roomy}
use Rattle.task_ast.specs.SyncOps.{IsNumbered}
use Rattle.token_order.proofs.Waiting.{issue_lets}
use Rattle.whole_run.specs.declared.parts.Parts.{Parts}
use Rattle.whole_run.specs.declared.parts.Place.{Place}
use Rattle.whole_run.specs.declared.calls.Halt.{Halt}
use Rattle.whole_run.specs.declared.calls.Halt.TheVariants as halt
use Rattle.whole_run.specs.declared.parts.issuing.Prepared.{Prepared}
use Rattle.whole_run.specs.declared.parts.backing.Backup.{Backup}
use Rattle.whole_run.specs.declared.parts.backing.Checkpoint.{Checkpoint}
use Rattle.whole_run.specs.declared.recovery.Recovery.{Recovery}
use Rattle.whole_run.specs.declared.recovery.Recovery.TheVariants.{Selective, Rollback}
use Rattle.whole_run.specs.inner.Backed.{held_of, IsCheckpoint, BackedBy}
use Rattle.whole_run.specs.View.{Batch, program_in, run_in, dependence_in, start_in, end_in}
use Rattle.whole_run.specs.Gives.{Did, IsAwaited, TurnsTo, TurnsToSettle}
use Rattle.whole_run.specs.inner.RingStands.{StartIs, places_after, point_before, plain_before, from_before}
use Rattle.task_ast.specs.meaning.State.{State, RegistersOf, number_at}
use Rattle.whole_run.specs.inner.Kept.{stage_of, view_of, IsPlaceIn, IsPlaced, IsHome, WindowStands, Keeps, Kept}
use Rattle.whole_run.specs.inner.Prepared.{PreparedFor, IsPrepared, IsReadyFor, IsPushed, SameParts, IsSlotted, new_entry, settled_place, settled_in}
use Rattle.whole_run.proofs.Options.{some_none, none_some, some_same}
use Rattle.whole_run.proofs.RingIssues.{same_run, ring_passed, ring_needs, ring_ends, ring_issued, told, begun, below, may_issue}
use Rattle.whole_run.proofs.Histories.{histories-fit}
use Rattle.whole_run.proofs.Windows.{window-issue}
use Rattle.whole_run.proofs.Backings.{backed-drained}
use Rattle.whole_run.proofs.Kepts.{stage_stands, stands_by, names_issued, keeps_then, kept_as}

-- another table with as many threads, at most
window_at : (batch : Batch) (at : Stage) (table next : Table) (entries : List Entry) (store : Stored) (backup : Backup)
    → length next.seats ≤ length table.seats → WindowStands batch at table entries store backup
    → WindowStands batch at next entries store backup
window_at batch at table next entries store backup l window =
    record {
      entries_are = window.entries_are;
      backed = window.backed;
      placed = window.placed;
      locks = window.locks;
      ready = window.ready;
      home = record {
        threads = let h = window.home.threads in omega arith;
        cells = window.home.cells;
        under = window.home.under;
        locks = window.home.locks;
      };
    }

-- a store with one more empty slot
slotted : (s : Stored) → length (with_thread 0 s).threads ≡ suc (length s.threads)
slotted s = length_push s.threads []

-- it holds the same data
backed_slot : (run : List Subthread) (faults : List Fault) (start : State) (recovery : Recovery) (at : Stage) (entries : List Entry)
    (store : Stored) (backup : Backup) → BackedBy run faults start recovery at entries store backup
    → BackedBy run faults start recovery at entries (with_thread 0 store) backup
backed_slot run faults start Selective at entries store backup backed =
    record {
      buffer_is = subst (λ state. RunStands run faults start at (record (buffer_of store entries) { state = state })) (sym (slot_law store))
          backed.buffer_is;
      undoable = histories-fit store (with_thread 0 store) entries
          (λ e. wider_law store (with_thread 0 store) e (let l = slotted store in omega arith) refl) backed.undoable;
    }
backed_slot run faults start (Rollback every) at entries store backup backed =
    record {
      held = subst (λ state. HeldStands run faults start at (record (held_of store entries) { state = state }))
          (sym (slot_law store)) backed.held;
      whole = backed.whole;
      are = λ k d l. same (get_or backup.checkpoints.items k d) (backed.are k d l);
      rising = backed.rising;
      has = backed.has;
      live = backed.live;
    }
  where
    same : (checkpoint : Checkpoint) → IsCheckpoint run faults start every at store checkpoint
        → IsCheckpoint run faults start every at (with_thread 0 store) checkpoint
    same checkpoint is =
        record {
          is_cut = is.is_cut;
          copy = is.copy;
          shape = record { cells = is.shape.cells; under = is.shape.under; away = is.shape.away; home = is.shape.home };
        }

window_slot : (batch : Batch) (at : Stage) (table : Table) (entries : List Entry) (store : Stored) (backup : Backup)
    → WindowStands batch at table entries store backup → WindowStands batch at table entries (with_thread 0 store) backup
window_slot batch at table entries store backup window =
    record {
      entries_are = window.entries_are;
      backed = backed_slot (run_in batch) batch.faults (start_in batch) batch.recovery at entries store backup window.backed;
      placed = window.placed;
      locks = window.locks;
      ready = window.ready;
      home = record {
        threads = let l = slotted store in let h = window.home.threads in omega arith;
        cells = window.home.cells;
        under = window.home.under;
        locks = window.home.locks;
      };
    }

-- a list that has no entry
pub none_left : (n : ℕ) (entries : List Entry) → n ≡ length entries → nat_eq n 0 ≡ true → entries ≡ []
none_left n [] same none = refl
none_left n (e ∷ entries) same none = absurd (let zero_is = eqb-true n 0 none in omega arith)

-- the position after the last of a row
comes_next : (p : ℕ) (entries : List Entry) → StandFrom p entries → ComesNext entries (p + length entries)
comes_next p [] row = tt
comes_next p (e ∷ []) row = let h = row.0 in omega arith
comes_next p (a ∷ e ∷ entries) row = subst (ComesNext (e ∷ entries))
    (let s : suc p + length (e ∷ entries) ≡ p + length (a ∷ e ∷ entries) = omega arith in s) (comes_next (suc p) (e ∷ entries) row.1)

-- a thread that begins with a settle stands where its variable is set
placed_so : (batch : Batch) (p t : ℕ) (op : SyncOp) (place : Place) (state : State) → IsPlaceIn batch t op place (point_before batch p t)
    → (is_settle op ≡ true → state ≡ (plain_before batch p).state)
    → IsPlaceIn batch t op (settled_place op state t place) (from_before batch p op t)
placed_so batch p t (sync.Settle register control) place state here same =
    subst (λ (s : State). IsPlaceIn batch t (sync.Settle register control) (settled_place (sync.Settle register control) s t place)
    (from_before batch p (sync.Settle register control) t)) (sym (same refl))
    ((follows (program_in batch) batch.inputs batch.limits).sets register control
    (number_at ((plain_before batch p).state (RegistersOf t)) register) _ _ here)
placed_so batch p t sync.Start place state here same = here
placed_so batch p t (sync.Lock l) place state here same = here
placed_so batch p t (sync.Unlock l) place state here same = here
placed_so batch p t (sync.Fork task arguments) place state here same = here
placed_so batch p t (sync.Join h) place state here same = here
placed_so batch p t (sync.Barrier b) place state here same = here
placed_so batch p t sync.End place state here same = here
placed_so batch p t sync.BadIndex place state here same = here
placed_so batch p t sync.Spent place state here same = here

module _ (batch : Batch) (table : Table) (places : List Place) (entries : List Entry) (store : Stored) (backup : Backup)
    (events : List Event) (restarts : List Restart) (issued : ℕ) (known : Option Halt)
    (keeps : Keeps batch table places entries store backup events restarts issued known) where
  abbrev at : Stage
  at = stage_of batch events

  pub kept_slotted : Keeps batch table places entries (with_thread 0 store) backup events restarts issued known
  kept_slotted =
      record {
        fit = keeps.fit;
        journal = keeps.journal;
        ring = keeps.ring;
        window = window_slot batch at table entries store backup keeps.window;
      }

  pub kept_passed : (after : Table) → turn table ≡ More after → Keeps batch after places entries store backup events restarts issued known
  kept_passed after e =
      record {
        fit = keeps.fit;
        journal = keeps.journal;
        ring = ring_passed batch (IsPlaceIn batch) at table places keeps.ring after e;
        window = window_at batch at table after entries store backup (let s = (pass_law table after e).threads in omega arith) keeps.window;
      }

  pub ends_so : (ending : End) → turn table ≡ Done (Ended ending)
      → (at.progress.front ≡ (dependence_in batch).count) × (ending ≡ end_in batch)
  ends_so ending e = let h = ring_ends batch (IsPlaceIn batch) at table places keeps.ring ending e in (h.0, sym h.1)

  pub kept_ended : (ending : End) → turn table ≡ Done (Ended ending)
      → Keeps batch table places entries store backup events restarts issued (Some (halt.Ended ending))
  kept_ended ending e =
      record {
        fit = keeps.fit;
        journal = record {
          lawful = keeps.journal.lawful;
          restarts_are = keeps.journal.restarts_are;
          issued_are = keeps.journal.issued_are;
          ended_is = ends_so ending e;
        };
        ring = keeps.ring;
        window = keeps.window;
      }

  pub needs_so : (t : ℕ) → turn table ≡ Done (Needs t) → IsAwaited (record { batch = batch; events = events; ended = known }) t
  needs_so t e =
      let h = ring_needs batch (IsPlaceIn batch) at table places keeps.ring t e in
      (h.0, (same_run batch (IsPlaceIn batch) at table places keeps.ring).lasts t ∙ h.1, h.3)

  -- what the rules of turns answer
  pub turns_so : (answer : Turn) → turn table ≡ Done answer → TurnsTo (record { batch = batch; events = events; ended = known }) answer
  turns_so answer e = record { table = table; stands = keeps.ring.stands; learnt = keeps.ring.learnt; turned = e }

  -- a turn that a settle makes
  pub settle_turns : (t : ℕ) → settling_in (turn table) ≡ Some t
      → TurnsToSettle (record { batch = batch; events = events; ended = known }) t
  settle_turns t e = go (turn table) refl e
    where
      same_one : (u : ℕ) (b : Bool) → cond b (Some u) None ≡ Some t → (u ≡ t) × (b ≡ true)
      same_one u true f = (some_same f, refl)
      same_one u false f = absurd (none_some f)

      go : (answer : Again Table Turn) → turn table ≡ answer → settling_in answer ≡ Some t
          → TurnsToSettle (record { batch = batch; events = events; ended = known }) t
      go (More after) is f = absurd (none_some f)
      go (Done (Issue u next child after)) is f =
          let same = same_one u (is_settle next.sync) f in
          record {
            begins = next;
            child = child;
            later = after;
            turns = turns_so (Issue t next child after) (is ∙ ap (λ v. Done (Issue v next child after)) same.0);
            settles = same.1;
          }
      go (Done (Needs u)) is f = absurd (none_some f)
      go (Done (Ended ending)) is f = absurd (none_some f)

  -- the turn is a settle's
  pub settles_so : (t : ℕ) → settling_in (turn table) ≡ Some t → (dependence_in batch).settles at.progress.front ≡ true
  settles_so t e = go (turn table) refl e
    where
      is_one : (u : ℕ) (b : Bool) → cond b (Some u) None ≡ Some t → b ≡ true
      is_one u true f = refl
      is_one u false f = absurd (none_some f)

      go : (answer : Again Table Turn) → turn table ≡ answer → settling_in answer ≡ Some t
          → (dependence_in batch).settles at.progress.front ≡ true
      go (More after) is f = absurd (none_some f)
      go (Done (Issue u next child after)) is f =
          let there = told batch (IsPlaceIn batch) at table places keeps.ring u next child after is in
          ap (λ o. option_map_or (λ (s : Subthread). is_settle s.begins.sync) o false) there.position
          ∙ (ap (λ (n : Next). is_settle n.sync) there.begins ∙ is_one u (is_settle next.sync) f)
      go (Done (Needs u)) is f = absurd (none_some f)
      go (Done (Ended ending)) is f = absurd (none_some f)

  pub kept_settling : (t : ℕ) → settling_in (turn table) ≡ Some t
      → Keeps batch table places entries store backup events restarts issued (Some halt.Settling)
  kept_settling t e =
      record {
        fit = keeps.fit;
        journal = record {
          lawful = keeps.journal.lawful;
          restarts_are = keeps.journal.restarts_are;
          issued_are = keeps.journal.issued_are;
          ended_is = settles_so t e;
        };
        ring = keeps.ring;
        window = keeps.window;
      }

  -- some position has not retired where an entry is left
  pub some_left : (n : ℕ) → n ≡ length entries → nat_eq n 0 ≡ false → at.retired < at.progress.front
  some_left n same some =
      let front = keeps.window.entries_are.front in
      let more : n ≡ 0 → ⊥ = (λ zero_is. false≢true (sym some ∙ eq-eqb n 0 zero_is)) in
      omega (arith, more)

  -- where the next entry goes
  pub next_is : ComesNext entries issued
  next_is =
      subst (ComesNext entries) (keeps.window.entries_are.front ∙ sym keeps.journal.issued_are)
      (comes_next at.retired entries keeps.window.entries_are.row)

  module _ (t : ℕ) (next : Next) (child : Option ℕ) (after : Table) (is : turn table ≡ Done (Issue t next child after)) where
    -- there are fewer subthreads than may be issued
    pub few_issued : issued + 1 < 4294967296
    few_issued =
        let b = below batch (IsPlaceIn batch) at table places keeps.ring t next child after is in
        let most = count_law (tree_machine (program_in batch) batch.inputs batch.limits) (program_in batch) batch.inputs batch.limits in
        let few = keeps.fit.few in
        let same = keeps.journal.issued_are in
        omega arith

    -- a settle is issued where all before it have retired
    settles_alone : (alone : Bool) → (alone ≡ true → entries ≡ []) → (alone ≡ true) ⊎ (settling_in (turn table) ≡ None)
        → is_settle next.sync ≡ true → at.retired ≡ at.progress.front
    settles_alone alone none (inl so) settles =
        let front = keeps.window.entries_are.front in
        let empty = ap length (none so) in
        omega arith
    settles_alone alone none (inr not_one) settles =
        absurd (some_none (ap (λ b. cond b (Some t) None) (sym settles) ∙ (ap settling_in (sym is) ∙ not_one)))

    module _ (alone : Bool) (none : alone ≡ true → entries ≡ []) (lets : (alone ≡ true) ⊎ (settling_in (turn table) ≡ None))
        (none_due : NoneDue batch.faults at.progress) (prepared : Prepared) (made : PreparedFor batch table places t next.sync prepared)
        (slot : is_some prepared.start ≡ true → length table.seats < length store.threads) where
      abbrev ready : Prepared
      ready = settled_in next.sync (state_of store) t prepared

      abbrev entry : Entry
      entry = new_entry issued t next child ready

      allowed : Allowed (dependence_in batch) batch.faults at (event.Issue issued)
      allowed =
          subst (λ p. Allowed (dependence_in batch) batch.faults at (event.Issue p)) (sym keeps.journal.issued_are)
          (may_issue batch (IsPlaceIn batch) at table places keeps.ring t next child after is none_due (settles_alone alone none lets))

      issued_is : IsIssuedBy (tree_machine (program_in batch) batch.inputs batch.limits)
          (program_in batch) batch.inputs batch.limits at.progress.front table t next child after
      issued_is = told batch (IsPlaceIn batch) at table places keeps.ring t next child after is

      has_begun : HasBegun table t next child after
      has_begun = begun batch (IsPlaceIn batch) at table places keeps.ring t next child after is

      held_is : prepared.held ≡ issued_is.subthread.held
      held_is = made.held ∙ sym (issued_is.held ∙ ap (λ owners. owned_from 0 owners t) has_begun.owners)

      locks_are : prepared.locks ≡ lock_foot_of issued_is.subthread
      locks_are =
          made.locks
          ∙ (λ i. lock_footprint (sym issued_is.thread i) (sym issued_is.begins i).sync (sym (issued_is.child_is ∙ has_begun.child_is) i)
          (held_is i))

      first : IsFirst (run_in batch) issued entry
      first =
          record {
            subthread = issued_is.subthread;
            is_there = ap (slice_get (run_in batch)) keeps.journal.issued_are ∙ issued_is.position;
            is_of = record {
              thread = sym issued_is.thread;
              begins = sym issued_is.begins;
              child = sym issued_is.child_is;
              held = held_is;
              locks = locks_are;
            };
            position = refl;
            attempt = refl;
            begun = refl;
            unknown = refl;
            fresh = record { waits = refl; no_history = refl; no_lines = refl };
          }

      placed : IsPlaced batch entry
      placed =
          subst (λ p. IsPlaceIn batch t next.sync ready.place (from_before batch p next.sync t)) (sym keeps.journal.issued_are)
          (placed_so batch at.progress.front t next.sync prepared.place (state_of store)
          (keeps.ring.place_is t prepared.place next made.place has_begun.known) (λ settles.
          backed-drained (program_in batch) batch.inputs batch.limits batch.faults batch.recovery at entries store backup
          (stands_by batch events keeps.fit keeps.journal) keeps.window.backed (settles_alone alone none lets settles)))

      home : IsHome batch after store
      home =
          record {
            threads = subst (λ n. n ≤ length store.threads)
                (sym (has_begun.threads ∙ ap (λ c. with_child c (length table.seats)) has_begun.child_is))
                (grown next.sync prepared.start made.start slot);
            cells = keeps.window.home.cells;
            under = keeps.window.home.under;
            locks = keeps.window.home.locks;
          }
        where
          grown : (op : SyncOp) (start : Option Place) → StartIs batch (IsPlaceIn batch) (length table.seats) op start
              → (is_some start ≡ true → length table.seats < length store.threads)
              → with_child (child_of op (length table.seats)) (length table.seats) ≤ length store.threads
          grown (sync.Fork task arguments) (Some c) s l = l refl
          grown (sync.Fork task arguments) None s l = absurd s
          grown op start s l = keeps.window.home.threads

      pub kept_issued : Keeps batch after (places_after places prepared.start)
          (entries ++ new_entry issued t next child (settled_in next.sync (state_of store) t prepared) ∷ []) store backup
          (events ++ event.Issue issued ∷ []) restarts (issued + 1) None
      kept_issued =
          keeps_then batch events keeps.fit keeps.journal (event.Issue issued) allowed after (places_after places prepared.start)
          (entries ++ entry ∷ []) store backup restarts (issued + 1) None
          (ring_issued batch (IsPlaceIn batch) at table places keeps.ring t next child after is prepared.start made.start
          (names_issued batch events keeps.fit keeps.journal))
          (window-issue batch keeps.fit at (stage_stands batch events keeps.fit keeps.journal)
          (stands_by batch events keeps.fit keeps.journal) table
          store backup entries keeps.window issued entry
          (names_issued batch events keeps.fit keeps.journal) allowed first placed after store home refl (omega arith) refl)
          keeps.journal.restarts_are (ap (λ n. n + 1) keeps.journal.issued_are) tt

-- turns that pass keep all
pub kept_passes : (batch : Batch) (table after : Table) (places : List Place) (entries : List Entry) (store : Stored) (backup : Backup)
    (events : List Event) (restarts : List Restart) (issued : ℕ) (known : Option Halt)
    → Keeps batch table places entries store backup events restarts issued known → Passes table after
    → Keeps batch after places entries store backup events restarts issued known
kept_passes batch table after places entries store backup events restarts issued known keeps no_pass = keeps
kept_passes batch table after places entries store backup events restarts issued known keeps (one_pass {there = there} before e) =
    kept_passed batch there places entries store backup events restarts issued known
    (kept_passes batch table there places entries store backup events restarts issued known keeps before) after e

-- and leave no more that may pass
pub passes_fall : (table after : Table) → Passes table after → turns_left after ≤ turns_left table
passes_fall table after no_pass = omega arith
passes_fall table after (one_pass {there = there} before e) =
    let less = turn-IsFalling.falls there after e in
    let rest = passes_fall table there before in
    omega (arith, less, rest)

-- a thread that is known to have ended is there
ended_below : (table : Table) (h : ℕ) → is_known_end (next_of table h) ≡ true → h < length table.seats
ended_below table h e = go (slice_get table.seats h) refl
  where
    go : (o : Option Seat) → slice_get table.seats h ≡ o → h < length table.seats
    go None there = absurd (false≢true (ap (λ o. is_known_end (option_and_then (λ s. s.next) o)) (sym there) ∙ e))
    go (Some seat) there = slice_get_within table.seats h seat there

-- a join that is not kept back has a number of 32 bits
pub is_numbered : (op : SyncOp) (table : Table) → length table.seats ≤ 4096 → is_let table op ≡ true → IsNumbered op
is_numbered (sync.Join (pos h)) table few e = let l = ended_below table h e in omega arith
is_numbered op table few e = tt

module _ (batch : Batch) (parts : Parts) (kept : Kept batch parts) (t : ℕ) (next : Next) (child : Option ℕ) (after : Table)
    (is : turn parts.ring.table ≡ Done (Issue t next child after)) where
  -- what was prepared for the thread ahead is for the one that is issued
  tried : ahead parts.ring.table ≡ Some (t, next)
  tried = (begun batch (IsPlaceIn batch) (stage_of batch parts.events.items) parts.ring.table parts.places.items kept.ring t next child
      after is).tried

  pub not_none : IsReadyFor batch parts None → ⊥
  not_none ready = false≢true (sym (ready.prepared_is t next tried) ∙ issue_lets parts.ring.table t next child after is)

  pub prepared_some : (o : Option Prepared) → IsReadyFor batch parts o → IsSome o
  prepared_some None there = absurd (not_none there)
  prepared_some (Some prepared) there = refl

  pub kept_pushed : (alone : Bool) → (alone ≡ true → parts.rol.entries ≡ []) → (alone ≡ true) ⊎ (settling_in (turn parts.ring.table) ≡ None)
      → NoneDue batch.faults (stage_of batch parts.events.items).progress → (prepared : Prepared) → IsReadyFor batch parts (Some prepared)
      → (ring : Roomy) → ring.table ≡ after → (later : Parts)
      → IsPushed (record parts { ring = ring }) later
      (new_entry parts.issued t next child (settled_in next.sync (state_of parts.store) t prepared)) prepared.start
      → Kept batch later
  kept_pushed alone none lets none_due prepared ready ring ring_is later pushed =
      kept_as batch later after (places_after parts.places.items prepared.start)
      (parts.rol.entries ++ new_entry parts.issued t next child (settled_in next.sync (state_of parts.store) t prepared) ∷ []) parts.store
      parts.backup (parts.events.items ++ event.Issue parts.issued ∷ []) parts.restarts.items (parts.issued + 1) None
      (ap (λ (r : Roomy). r.table) pushed.ring ∙ ring_is) pushed.places pushed.entries pushed.store pushed.backup pushed.events
      (ap (λ (r : Reserved Restart). r.items) pushed.restarts) pushed.issued pushed.ended
      (kept_issued batch parts.ring.table parts.places.items parts.rol.entries parts.store parts.backup parts.events.items
      parts.restarts.items parts.issued parts.ended kept
      t next child after is alone none lets none_due prepared (ready.prepared_is t next tried) ready.slot)

  pub did_issue : (alone : Bool) → (alone ≡ true → parts.rol.entries ≡ []) → (alone ≡ true) ⊎ (settling_in (turn parts.ring.table) ≡ None)
      → NoneDue batch.faults (stage_of batch parts.events.items).progress → (prepared : Prepared) → (ring : Roomy) → (later : Parts)
      → (p : ℕ) → p ≡ parts.issued
      → IsPushed (record parts { ring = ring }) later
      (new_entry parts.issued t next child (settled_in next.sync (state_of parts.store) t prepared)) prepared.start
      → Did (view_of batch parts) (event.Issue p) (view_of batch later)
  did_issue alone none lets none_due prepared ring later p p_is pushed =
      record {
        allowed = subst (λ q. Allowed (dependence_in batch) batch.faults (stage_of batch parts.events.items) (event.Issue q))
            (sym (p_is ∙ kept.journal.issued_are))
            (may_issue batch (IsPlaceIn batch) (stage_of batch parts.events.items) parts.ring.table parts.places.items kept.ring t next
            child after is none_due
            (settles_alone batch parts.ring.table parts.places.items parts.rol.entries parts.store parts.backup parts.events.items
            parts.restarts.items parts.issued parts.ended kept t next child after is alone none lets));
        waited = tt;
        grown = λ i. record {
          batch = batch;
          events = (pushed.events ∙ ap (λ q. parts.events.items ++ event.Issue q ∷ []) (sym p_is)) i;
          ended = pushed.ended i;
        };
      }

-- the thread ahead with its next synchronisation
ahead_with : (table : Table) (t : ℕ) (next : Next) → Some t ≡ option_map (λ tried. tried.0) (ahead table) → Some next ≡ next_of table t
    → ahead table ≡ Some (t, next)
ahead_with table t next e known = go (ahead table) refl e
  where
    go : (o : Option (ℕ × Next)) → ahead table ≡ o → Some t ≡ option_map (λ tried. tried.0) o → ahead table ≡ Some (t, next)
    go None is e = absurd (some_none e)
    go (Some other) is e =
        let same : t ≡ other.0 = some_same e in
        let there : next ≡ other.1 = some_same (known ∙ (ap (next_of table) same ∙ (ahead_law table other.0 other.1 is).1)) in
        is ∙ (λ i. Some (sym same i, sym there i))

-- what the thread ahead asks is at hand
pub ahead_inside : (table : Table) (t : ℕ) (next : Next) → Some t ≡ option_map (λ tried. tried.0) (ahead table)
    → Some next ≡ next_of table t → t < length table.seats
ahead_inside table t next e known = (ahead_law table t next (ahead_with table t next e known)).0

module _ (batch : Batch) (table : Table) (places : List Place) where
  -- no thread is ahead, or its next synchronisation isn't known
  pub none_ahead : None ≡ option_map (λ tried. tried.0) (ahead table) → IsPrepared batch table places None
  none_ahead e t next is = absurd (none_some (e ∙ ap (option_map (λ tried. tried.0)) is))

  pub unknown_ahead : (t : ℕ) → Some t ≡ option_map (λ tried. tried.0) (ahead table) → None ≡ next_of table t
      → IsPrepared batch table places None
  unknown_ahead t e none other there is =
      absurd (none_some (none ∙ (ap (next_of table) (some_same (e ∙ ap (option_map (λ tried. tried.0)) is))
      ∙ (ahead_law table other there is).1)))

  module _ (t : ℕ) (next : Next) (e : Some t ≡ option_map (λ tried. tried.0) (ahead table)) (known : Some next ≡ next_of table t) where
    -- what is prepared for the thread ahead, or that nothing can be
    pub prepared_for : (prepared : Prepared) → PreparedFor batch table places t next.sync prepared
        → IsPrepared batch table places (Some prepared)
    prepared_for prepared done other there is =
        let same : ◌≡◌ {A = ℕ × Next} (t, next) (other, there) = some_same (sym (ahead_with table t next e known) ∙ is) in
        subst (λ x. PreparedFor batch table places x.0 x.1.sync prepared) same done

    pub not_prepared : is_let table next.sync ≡ false → IsPrepared batch table places None
    not_prepared none other there is =
        let same : ◌≡◌ {A = ℕ × Next} (t, next) (other, there) = some_same (sym (ahead_with table t next e known) ∙ is) in
        subst (λ x. is_let table x.1.sync ≡ false) same none

-- nothing has changed but the room, and the store by a slot
pub kept_same : (batch : Batch) (before after : Parts) → SameParts before after → IsSlotted before.store after.store → Kept batch before
    → Kept batch after
kept_same batch before after same (inl store) kept =
    kept_as batch after before.ring.table before.places.items before.rol.entries before.store before.backup before.events.items
    before.restarts.items before.issued before.ended
    same.table same.places same.entries store same.backup same.events same.restarts same.issued same.ended kept
kept_same batch before after same (inr store) kept =
    kept_as batch after before.ring.table before.places.items before.rol.entries
    (with_thread 0 before.store) before.backup before.events.items before.restarts.items before.issued before.ended
    same.table same.places same.entries store same.backup same.events same.restarts same.issued same.ended
    (kept_slotted batch before.ring.table before.places.items before.rol.entries before.store before.backup before.events.items
    before.restarts.items before.issued before.ended kept)

pub kept_ready : (batch : Batch) (before room : Parts) (store : Stored) → SameParts before room → room.store ≡ before.store
    → IsSlotted room.store store → Kept batch before → Kept batch (record room { store = store })
kept_ready batch before room store same kept_store slot kept =
    kept_same batch room (record room { store = store })
    (record { table = refl; places = refl; entries = refl; backup = refl; events = refl; restarts = refl; issued = refl; ended = refl })
    slot
    (kept_same batch before room same (inl kept_store) kept)

pub same_view : (batch : Batch) (before after : Parts) → SameParts before after → view_of batch after ≡ view_of batch before
same_view batch before after same = λ i. record { batch = batch; events = same.events i; ended = same.ended i }

-- what is kept says of the places
pub few_places : (batch : Batch) (parts : Parts) → Kept batch parts → length parts.places.items ≤ 4096
few_places batch parts kept =
    let few = most_threads_law parts.ring.table kept.ring.stands.reached in
    let same = kept.ring.places_are in
    omega arith

-- a child starts where its task does
pub starts_so : (batch : Batch) (n : ℕ) (op : SyncOp) (task : ℕ) (arguments : List ℤ) (ctl : List ℤ) → op ≡ sync.Fork task arguments
    → ctl ≡ (start_place (program_in batch) task 0 arguments).ctl
    → StartIs batch (IsPlaceIn batch) n op (Some (record { at = record { task = task; pc = 0 }; ctl = ctl }))
starts_so batch n op task arguments ctl e ctl_is =
    subst (λ op. StartIs batch (IsPlaceIn batch) n op (Some (record { at = record { task = task; pc = 0 }; ctl = ctl }))) (sym e)
    (subst (λ ctl. IsPlaceIn batch n sync.Start (record { at = record { task = task; pc = 0 }; ctl = ctl })
    (start_point (task_at (program_in batch) task) n arguments)) (sym ctl_is)
    ((follows (program_in batch) batch.inputs batch.limits).starts task n arguments))
