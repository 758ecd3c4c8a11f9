-- All is kept where an attempt was posted, and its task stands. The entry may be posted by locks, so its locks exist,
-- are at home and rise. The task that is made of it has the place of its thread, and is given what the store holds;
-- that makes it a task that stands. After the post the locks are away and the entry is out, and what a block keeps was
-- opened before.
use Rattle.std.proofs.Common.{◌≡◌, inl, inr, ℕ, true, nat_lt, List, [], ◌∷◌, ◌++◌, refl, sym, ap, ◌∙◌, subst, arith}
use Rattle.std.specs.Prelude.{All, Contains, get_or, pos, negsuc}
use Rattle.std.proofs.lemmas.Bool.{or_cases, ltb-true}
use Rattle.std.specs.List.Sorted.{IsStrictlyIncreasing}
use Rattle.std.specs.Option.{IsSomeAnd}
use Rattle.std.proofs.lemmas.List.Elements.{Contains-push, Contains-get_or}
use Rattle.gp_base.specs.declared.journal.Event.{Event}
use Rattle.gp_base.specs.declared.journal.Event.TheVariants as event
use Rattle.task_ast.specs.declared.sync.SyncOp.{SyncOp}
use Rattle.task_ast.specs.declared.sync.SyncOp.TheVariants as sync
use Rattle.task_ast.specs.declared.sync.Next.{Next}
use Rattle.task_ast.specs.meaning.Layout.{layout}
use Rattle.task_ast.specs.meaning.Plain.{Subthread}
use Rattle.task_ast.specs.Plain.{tree_machine}
use Rattle.task_ast.specs.Position.{before, from_in}
use Rattle.task_ast.specs.Fold.{fold}
use Rattle.task_ast.proofs.Positions.{forked_is}
use Rattle.task_ast.proofs.SeatLimits.{most_threads_law}
use Rattle.task_ast.proofs.Standings.{agrees}
use Rattle.task_code.specs.Relation.{Rests}
use Rattle.gp_base.specs.declared.fault.Fault.{Fault}
use Rattle.dependence.specs.meaning.Journal.{Stage, MayPost, happens, Allowed}
use Rattle.dependence.specs.Posting.{IsWithin, posting_of}
use Rattle.dependence.specs.meaning.Runs.{feet_of, dependence_of}
use Rattle.dependence.specs.Runs.{lock_feet_of}
use Rattle.dependence.specs.meaning.Conflict.{clash_in}
use Rattle.dependence.specs.Standing.{present, StageStands}
use Rattle.dependence.specs.RunBuffer.{members_at}
use Rattle.dependence.proofs.Posting.{post-by-locks, run-within}
use Rattle.rollback.specs.meaning.Cuts.{cut_at, cuts_of}
use Rattle.task_ast.specs.SyncOps.{joined_by, IsNumbered}
use Rattle.record_store.specs.Given.{given_of}
use Rattle.record_store.specs.Lent.{marked}
use Rattle.record_store.specs.Stored.{Stored, state_of, IsAtHome}
use Rattle.reorder_list.specs.declared.entry.Entry.{Entry}
use Rattle.reorder_list.specs.Entries.{entry_at, with_change_at, out_entry}
use Rattle.reorder_list.specs.Runnable.{IsRunnable}
use Rattle.reorder_list.specs.Stages.{IsEntry}
use Rattle.reorder_list.proofs.Changes.{all-there, position-of}
use Rattle.reorder_list.proofs.Staged.{is-runnable}
use Rattle.subthread.specs.Lending.{lent_by}
use Rattle.subthread.specs.declared.task.Task.{Task}
use Rattle.subthread.specs.Tasks.{Fits, place_of}
use Rattle.subthread.specs.Joining.{IsTaskOf, IsGiven}
use Rattle.subthread.proofs.Fitted.{fits_law}
use Rattle.crew.specs.Out.{pair_of}
use Rattle.whole_run.specs.Recovering.{recovering}
use Rattle.whole_run.specs.declared.parts.Parts.{Parts}
use Rattle.whole_run.specs.declared.recovery.Recovery.{Recovery}
use Rattle.whole_run.specs.declared.recovery.Recovery.TheVariants.{Selective, Rollback}
use Rattle.whole_run.specs.View.{Batch, program_in, run_in, dependence_in, under_in, start_in, grown}
use Rattle.whole_run.specs.Gives.{BlockIsOpen, MayPostNow, Did}
use Rattle.whole_run.specs.Takes.{TaskStands}
use Rattle.whole_run.specs.inner.Backed.{StandsBy, IsOpened}
use Rattle.whole_run.specs.inner.Kept.{view_of, stage_of, IsPlaceIn, IsPlaced, Keeps, Kept}
use Rattle.whole_run.specs.inner.Locks.{HasLocks}
use Rattle.whole_run.specs.inner.Posted.{bare_in, task_in}
use Rattle.whole_run.proofs.Backings.{backed-state}
use Rattle.whole_run.proofs.Kepts.{stage_then, stands_by, stage_stands, keeps_then}
use Rattle.whole_run.proofs.Locks.{held-exist, held-rises, home-there}
use Rattle.whole_run.proofs.RingTakes.{ring_same}
use Rattle.whole_run.proofs.Windows.{threads-below, apart, names-held, window-post}

-- what may be posted by locks, in a block that is open, is allowed
pub post-allowed : (recovery : Recovery) (run : List Subthread) (faults : List Fault) (at : Stage) (p attempt : ℕ)
    → IsWithin (clash_in (lock_feet_of run)) (dependence_of run) → MayPost (posting_of run) at p attempt → BlockIsOpen recovery run at p
    → Allowed (recovering recovery run) faults at (event.Post p attempt)
post-allowed Selective run faults at p attempt within may whole =
    post-by-locks (dependence_of run) (clash_in (lock_feet_of run)) at p attempt within may
post-allowed (Rollback every) run faults at p attempt within may whole =
    record {
      issued = may.issued;
      unretired = may.unretired;
      present = may.present;
      unposted = may.unposted;
      ready = λ q l waits.
          elim (or_cases (clash_in (feet_of run) q p) (nat_lt q (cut_at (cuts_of every run) p)) waits) [
            | inl clash ↦ (post-by-locks (dependence_of run) (clash_in (lock_feet_of run)) at p attempt within may).ready q l clash
            | inr before ↦ whole q (ltb-true q (cut_at (cuts_of every run) p) before)
          ];
    }

-- what contracts see is the same, where a block was opened
pub view-then : (batch : Batch) (before parts : Parts) → parts ≡ record before { backup = parts.backup }
    → view_of batch parts ≡ view_of batch before
view-then batch before parts same = ap (view_of batch) same

pub may-then : (batch : Batch) (before parts : Parts) → parts ≡ record before { backup = parts.backup } → (p : ℕ)
    → MayPostNow (view_of batch before) p → MayPostNow (view_of batch parts) p
may-then batch before parts same p may = subst (λ view. MayPostNow view p) (sym (view-then batch before parts same)) may

module _ (batch : Batch) (parts : Parts) (kept : Kept batch parts) (p : ℕ) (may : MayPostNow (view_of batch parts) p) where
  abbrev at : Stage
  at = stage_of batch parts.events.items

  stage : StageStands (dependence_in batch) batch.faults at
  stage = stage_stands batch parts.events.items kept.fit kept.journal

  stands-now : StandsBy (run_in batch) batch.faults batch.recovery at
  stands-now = stands_by batch parts.events.items kept.fit kept.journal

  pub runnable : IsRunnable parts.rol.entries p
  runnable =
      is-runnable (run_in batch) at parts.rol.entries kept.window.entries_are (dependence_of (run_in batch)) batch.faults p may.by_locks

  abbrev e : Entry
  e = runnable.entry

  is : IsEntry (run_in batch) at p e
  is = kept.window.entries_are.each p e runnable.is_there

  abbrev s : Subthread
  s = is.subthread

  -- the thread that is joined has a number of 32 bits
  numbered-sync : (op : SyncOp) → s.begins.sync ≡ op → IsNumbered op
  numbered-sync (sync.Join (pos h)) same =
      let front = stage.front_low in
      let below = may.by_locks.issued in
      let machine = tree_machine (program_in batch) batch.inputs batch.limits in
      let forked = (forked_is machine (program_in batch) batch.inputs batch.limits p s is.is_there).joined (pos h) same in
      let reached = threads-below batch p at.progress.front (omega (arith, below)) front in
      let many =
      (agrees machine (program_in batch) batch.inputs batch.limits at.progress.front parts.ring.table kept.ring.stands).threads in
      let most = most_threads_law parts.ring.table kept.ring.stands.reached in
      let same_number : h ≡ forked.0 = cc (forked.1) in
      let low = forked.2 in
      omega arith
  numbered-sync (sync.Join (negsuc h)) same = tt
  numbered-sync sync.Start same = tt
  numbered-sync (sync.Lock l) same = tt
  numbered-sync (sync.Unlock l) same = tt
  numbered-sync (sync.Fork k es) same = tt
  numbered-sync (sync.Barrier b) same = tt
  numbered-sync (sync.Settle register control) same = tt
  numbered-sync sync.End same = tt
  numbered-sync sync.BadIndex same = tt
  numbered-sync sync.Spent same = tt

  pub numbered : IsSomeAnd (entry_at parts.rol.entries p) (λ x. IsNumbered x.begins.sync)
  numbered =
      subst (λ o. IsSomeAnd o (λ (x : Entry). IsNumbered x.begins.sync)) (sym runnable.is_there)
      (subst (λ next. IsNumbered next.sync) (sym is.is_of.begins) (numbered-sync s.begins.sync refl))

  -- its locks exist, are at home, and rise
  exist : HasLocks parts.store.away e
  exist l holds =
      let below = held-exist batch kept.fit p s is.is_there l (subst (λ held. Contains held l) is.is_of.held holds) in
      let all = kept.window.home.locks in omega arith

  home : All (IsAtHome parts.store) e.held
  home k d less =
      home-there (run_in batch) at parts.rol.entries kept.window.entries_are batch.faults stage kept.window.ready parts.store.away
      kept.window.locks p runnable exist (get_or e.held k d) (Contains-get_or e.held k d less)

  rising : IsStrictlyIncreasing e.held
  rising = subst IsStrictlyIncreasing (sym is.is_of.held) (held-rises batch p s is.is_there)

  abbrev task : Task
  task = task_in batch.faults parts.store p e

  -- the place stands for where the thread stands before a position, after what a settle sets
  abbrev RestsAt : (position thread : ℕ) → SyncOp → Type 0
  RestsAt q t op =
      Rests (program_in batch) op
      (from_in (program_in batch) batch.inputs batch.limits (before (program_in batch) batch.inputs batch.limits q) op t) (place_of task)

  is-task : IsTaskOf batch.work batch.inputs batch.limits p s task
  is-task =
      record {
        position = is.is_there;
        thread = is.is_of.thread;
        begins = is.is_of.begins;
        child = is.is_of.child;
        held = is.is_of.held;
        place = place;
      }
    where
      at_entry : IsPlaced batch e
      at_entry = all-there (IsPlaced batch) parts.rol.entries p e kept.window.placed runnable.is_there

      place : RestsAt p s.thread s.begins.sync
      place =
          subst (λ (next : Next). RestsAt p s.thread next.sync) is.is_of.begins
          (subst (λ t. RestsAt p t e.begins.sync) is.is_of.thread
          (subst (λ q. RestsAt q e.thread e.begins.sync) (position-of parts.rol.entries p e runnable.is_there) at_entry))

  is-given : IsGiven batch.work batch.inputs batch.limits task (state_of parts.store)
  is-given = ap (λ under. given_of under (state_of parts.store) e.thread (joined_by e.begins.sync) e.held) kept.window.home.under

  fits-it : Fits batch.work task
  fits-it =
      fits_law batch.work (layout (program_in batch).heads) batch.inputs batch.limits kept.fit.suits p s task (state_of parts.store) is-task
      is-given

  abbrev post : Event
  post = event.Post p (present at p)

  allowed : Allowed (dependence_in batch) batch.faults at post
  allowed =
      post-allowed batch.recovery (run_in batch) batch.faults at p (present at p)
      (run-within (under_in batch) (run_in batch) (apart batch kept.fit) (names-held batch kept.fit)) may.by_locks may.is_open

  state-now : state_of parts.store ≡ fold (members_at (run_in batch) batch.faults at) (start_in batch) at.applied at.progress.front
  state-now =
      backed-state (run_in batch) batch.faults (start_in batch) batch.recovery at parts.rol.entries parts.store parts.backup
      kept.window.backed

  -- the task stands once it is posted
  task-stands : TaskStands (grown (view_of batch parts) post) task
  task-stands =
      let then = stage_then batch parts.events.items post in
      record {
        is_task = record { subthread = s; is_of = is-task; mask = refl };
        posted = subst (λ (x : Stage). Contains x.posted (p, e.attempt)) (sym then)
            (subst (λ a. Contains (at.posted ++ (p, present at p) ∷ []) (p, a)) (sym is.attempt)
            (Contains-push at.posted (p, present at p)));
        untaken = λ h. may.by_locks.unposted (stage.taken_posted p (present at p)
            (subst (λ a. Contains at.taken (p, a)) is.attempt (subst (λ (x : Stage). Contains x.taken (p, e.attempt)) then h)));
        given = λ same. subst (IsGiven batch.work batch.inputs batch.limits task) (state-now
            ∙ ap (λ (x : Stage). fold (members_at (run_in batch) batch.faults x) (start_in batch) x.applied x.progress.front)
            (sym then)) is-given;
      }

  -- the store without the cells of the locks
  abbrev lender : Stored
  lender = record parts.store { away = marked e.held true parts.store.away }

  kept-posted : IsOpened batch.recovery parts.rol.entries p parts.backup
      → Keeps batch parts.ring.table parts.places.items (with_change_at p out_entry parts.rol.entries) lender parts.backup
      (parts.events.items ++ post ∷ []) parts.restarts.items parts.issued parts.ended
  kept-posted opened =
      keeps_then batch parts.events.items kept.fit kept.journal post allowed parts.ring.table parts.places.items
      (with_change_at p out_entry parts.rol.entries) lender parts.backup parts.restarts.items parts.issued parts.ended
      (ring_same batch (IsPlaceIn batch) at (happens (dependence_in batch) batch.faults at post) parts.ring.table parts.places.items
      refl refl kept.ring)
      (window-post batch kept.fit at stage stands-now parts.ring.table parts.store parts.backup parts.rol.entries kept.window p
      (present at p) allowed may.by_locks opened e runnable.is_there runnable.waits exist)
      kept.journal.restarts_are kept.journal.issued_are kept.journal.ended_is

  -- the same of the task that was found, and of the events that were made
  module _ (found : Task) (some : IsSomeAnd (entry_at parts.rol.entries p) (λ x. found ≡ bare_in batch.faults parts.store p x)) where
    same : found ≡ bare_in batch.faults parts.store p e
    same = subst (λ o. IsSomeAnd o (λ (x : Entry). found ≡ bare_in batch.faults parts.store p x)) runnable.is_there some

    same-task : lent_by parts.store found ≡ task
    same-task = ap (lent_by parts.store) same

    pub found-home : All (IsAtHome parts.store) found.held
    found-home = subst (λ (t : Task). All (IsAtHome parts.store) t.held) (sym same) home

    pub found-rising : IsStrictlyIncreasing found.held
    found-rising = subst (λ (t : Task). IsStrictlyIncreasing t.held) (sym same) rising

    pub fits : Fits batch.work (lent_by parts.store found)
    fits = subst (Fits batch.work) (sym same-task) fits-it

    pub pair : pair_of found ≡ (p, present at p)
    pair = ap pair_of same ∙ ap (λ a. (p, a)) is.attempt

    module _ (before events : List Event) (before_are : before ≡ parts.events.items)
        (events_are : events ≡ before ++ event.Post p found.attempt ∷ []) where
      made : events ≡ parts.events.items ++ post ∷ []
      made = events_are ∙ (λ i. before_are i ++ event.Post p (pair i).1 ∷ [])

      view-made : record { batch = batch; events = events; ended = parts.ended } ≡ grown (view_of batch parts) post
      view-made = λ i. record { batch = batch; events = made i; ended = parts.ended }

      pub did : Did (view_of batch parts) post (record { batch = batch; events = events; ended = parts.ended })
      did = record { allowed = allowed; waited = may.by_locks; grown = view-made }

      pub stands : TaskStands (record { batch = batch; events = events; ended = parts.ended }) (lent_by parts.store found)
      stands = rw (view-made, same-task) task-stands

      pub kept-then : IsOpened batch.recovery parts.rol.entries p parts.backup → (entries : List Entry) (store : Stored)
          → entries ≡ with_change_at p out_entry parts.rol.entries
          → store ≡ record parts.store { away = marked found.held true parts.store.away }
          → Keeps batch parts.ring.table parts.places.items entries store parts.backup events parts.restarts.items parts.issued parts.ended
      kept-then opened entries store entries_are store_is =
          let lent : store ≡ lender =
          store_is ∙ ap (λ (t : Task). record parts.store { away = marked t.held true parts.store.away }) same in
          rw (entries_are, lent, made) (kept-posted opened)
