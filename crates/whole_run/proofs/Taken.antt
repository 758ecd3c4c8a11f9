-- All is kept where the run of a task was taken.
use Rattle.std.proofs.Common.{◌≡◌, inl, inr, ℕ, nat_eq, Bool, true, false, cond, ◌<◌, ◌≤◌, List, [], ◌∷◌, ◌++◌, length, Option, Some, None, refl, sym, ap, ◌∙◌, subst, arith, slice_get, slice_set}
use Rattle.std.specs.Prelude.{Contains, All, map, option_map}
use Rattle.std.specs.Option.{IsSomeAnd}
use Rattle.std.proofs.lemmas.Bool.{eqb-true, eq-eqb, false≢true, false_from_ne_true, cases_lt}
use Rattle.gp_base.specs.declared.journal.Event.{Event}
use Rattle.gp_base.specs.declared.journal.Event.TheVariants as event
use Rattle.task_ast.specs.declared.sync.Next.{Next}
use Rattle.task_ast.specs.Table.{Table, learning}
use Rattle.task_ast.specs.History.{old_of}
use Rattle.task_ast.specs.meaning.Plain.{Subthread}
use Rattle.task_ast.specs.Plain.{tree_machine}
use Rattle.task_ast.specs.Position.{body_at}
use Rattle.task_ast.proofs.IssuedTables.{learnt_length}
use Rattle.task_ast.proofs.PlainRuns.{count_law}
use Rattle.task_code.specs.Relation.{Rests}
use Rattle.dependence.specs.Restarts.{mask_of}
use Rattle.dependence.specs.meaning.Journal.{Stage, happens, Allowed}
use Rattle.dependence.specs.Standing.{present, StageStands}
use Rattle.dependence.specs.Touching.{done_by}
use Rattle.dependence.specs.RunBuffer.{members_at}
use Rattle.token_order.specs.View.{awaited}
use Rattle.task_ast.specs.meaning.Under.{is_under}
use Rattle.record_store.specs.declared.given.Bundle.{Bundle}
use Rattle.record_store.specs.declared.given.Given.{Given}
use Rattle.record_store.specs.Given.{bundle_of}
use Rattle.record_store.specs.Lent.{marked, lock_in, put_back, whole_effect, MayComeHome}
use Rattle.record_store.specs.Stored.{Stored, state_of, Fits, IsAway}
use Rattle.reorder_list.specs.declared.entry.Entry.{Entry}
use Rattle.reorder_list.specs.declared.entry.State.{State}
use Rattle.reorder_list.specs.declared.entry.State.TheVariants as entry
use Rattle.reorder_list.specs.Entries.{entry_at, with_change_at, known_entry, applied_entry}
use Rattle.reorder_list.specs.Stages.{IsEntry}
use Rattle.reorder_list.proofs.Changes.{position-of, from-first, changed_where, changed, is-there, each-there, all-changed}
use Rattle.subthread.specs.declared.task.Done.{Done}
use Rattle.subthread.specs.Tasks.{task_of, effect_of, IsRun}
use Rattle.subthread.specs.Joining.{Runs, IsGiven}
use Rattle.subthread.proofs.Among.{same_locks_back}
use Rattle.subthread.proofs.HeldLocks.{bundle_locks}
use Rattle.subthread.proofs.Joined.{runs_law}
use Rattle.subthread.proofs.Lendings.{all-locks, as-lent}
use Rattle.task_ast.specs.meaning.Layout.{layout}
use Rattle.whole_run.specs.declared.parts.Parts.{Parts}
use Rattle.whole_run.specs.declared.parts.Place.{Place}
use Rattle.whole_run.specs.declared.parts.backing.Backup.{Backup}
use Rattle.whole_run.specs.View.{Batch, program_in, run_in, dependence_in, under_in, start_in}
use Rattle.whole_run.specs.Takes.{TaskStands}
use Rattle.whole_run.specs.inner.RingStands.{RingStands}
use Rattle.whole_run.specs.inner.Kept.{view_of, stage_of, IsPlaceIn, IsHome, WindowStands, Keeps, Kept}
use Rattle.whole_run.specs.inner.Backed.{StandsBy}
use Rattle.whole_run.specs.inner.Backing.{AdvancesBy}
use Rattle.whole_run.specs.inner.Taken.{is_number, awaits, learning_from, placing_from, has_attempt, history_by, IsAppliedWhere}
use Rattle.whole_run.proofs.Backings.{backed-state}
use Rattle.whole_run.proofs.Kepts.{stage_stands, stands_by, keeps_then}
use Rattle.whole_run.proofs.Locks.{away-there}
use Rattle.record_store.proofs.Marks.{length-marked}
use Rattle.whole_run.proofs.RingTakes.{ring_stale, ring_learnt}
use Rattle.whole_run.proofs.Windows.{window-stale, window-take, effect-fits, effect-fresh}

number-is : (p : ℕ) (o : Option ℕ) → is_number p o ≡ true → o ≡ Some p
number-is p None e = absurd (false≢true e)
number-is p (Some q) e = ap Some (eqb-true q p e)

number-not : (p : ℕ) (o : Option ℕ) → is_number p o ≡ false → o ≡ Some p → ⊥
number-not p None e same = absurd (cc same)
number-not p (Some q) e same = absurd (let is : q ≡ p = cc same in let yes = eq-eqb q p is in cc (e, yes))

-- where a position has no entry, no entry is changed
pub none-changed : (p : ℕ) (change : Entry → Entry) (entries : List Entry) → entry_at entries p ≡ None
    → with_change_at p change entries ≡ entries
none-changed p change [] none = refl
none-changed p change (x ∷ entries) none = go (nat_eq x.pos p) none (none-changed p change entries)
  where
    go : (b : Bool) → cond b (Some x) (entry_at entries p) ≡ None → (entry_at entries p ≡ None → with_change_at p change entries ≡ entries)
        → cond b (change x) x ∷ with_change_at p change entries ≡ x ∷ entries
    go true is rest = absurd (cc is)
    go false is rest = λ i. x ∷ rest is i

-- an attempt that was posted and is not applied is out
pub state-out : (state : State) → (state ≡ entry.Waiting → ⊥) → (state ≡ entry.Applied → ⊥) → state ≡ entry.Out
state-out entry.Waiting waits applied = absurd (waits refl)
state-out entry.Out waits applied = refl
state-out entry.Applied waits applied = absurd (applied refl)

module _ (batch : Batch) (parts : Parts) (kept : Kept batch parts) (done : Done)
    (task : TaskStands (view_of batch parts) (task_of batch.work done)) (run : IsRun batch.work done) where
  abbrev at : Stage
  at = stage_of batch parts.events.items

  abbrev p : ℕ
  p = done.task.pos

  abbrev attempt : ℕ
  attempt = done.task.attempt

  abbrev t : ℕ
  t = done.task.thread

  abbrev s : Subthread
  s = task.is_task.subthread

  abbrev there : slice_get (run_in batch) p ≡ Some s
  there = task.is_task.is_of.position

  stage : StageStands (dependence_in batch) batch.faults at
  stage = stage_stands batch parts.events.items kept.fit kept.journal

  stands-by : StandsBy (run_in batch) batch.faults batch.recovery at
  stands-by = stands_by batch parts.events.items kept.fit kept.journal

  runs : Runs batch.work batch.inputs batch.limits p s done
  runs = runs_law batch.work (layout (program_in batch).heads) batch.inputs batch.limits kept.fit.suits p s done task.is_task.is_of run

  below : p < at.progress.front
  below = (stage.posted_low p attempt task.posted).0

  -- the run's attempt is the present one exactly where its entry has it
  abbrev fresh : Bool
  fresh = has_attempt attempt (entry_at parts.rol.entries p)

  young : attempt ≡ present at p → at.retired ≤ p
  young same =
      elim (cases_lt p at.retired) [
        | inl l ↦ absurd (task.untaken (subst (λ a. Contains at.taken (p, a)) (sym same)
            (stage.applied_taken p (stage.retired_applied p l) (subst (λ a. Contains at.posted (p, a)) same task.posted))))
        | inr l ↦ l
      ]

  found : attempt ≡ present at p → (e : Entry) × (entry_at parts.rol.entries p ≡ Some e)
  found same =
      let front = kept.window.entries_are.front in
      let low = young same in
      let high = below in
      is-there at.retired parts.rol.entries p kept.window.entries_are.row low (omega arith)

  fresh-is : fresh ≡ nat_eq attempt (present at p)
  fresh-is = go (entry_at parts.rol.entries p) refl
    where
      go : (o : Option Entry) → entry_at parts.rol.entries p ≡ o → has_attempt attempt o ≡ nat_eq attempt (present at p)
      go (Some e) is = ap (nat_eq attempt) (kept.window.entries_are.each p e is).attempt
      go None is =
          sym (false_from_ne_true (nat_eq attempt (present at p))
          (λ e. absurd (let f = (found (eqb-true attempt (present at p) e)).1 in let both = sym is ∙ f in cc both)))

  is-present : fresh ≡ true → attempt ≡ present at p
  is-present e = eqb-true attempt (present at p) (sym fresh-is ∙ e)

  pub allowed : Allowed (dependence_in batch) batch.faults at (event.Take p attempt fresh)
  allowed = record { posted = task.posted; untaken = task.untaken; decided = fresh-is }

  fits-it : Fits parts.store (effect_of batch.work done)
  fits-it =
      effect-fits batch kept.fit at stage stands-by parts.ring.table parts.store parts.backup parts.rol.entries kept.window p s done there
      below task.is_task.is_of runs kept.ring.stands

  -- the bundles have the locks of the task, which are those of its entry
  abbrev locks : List ℕ
  locks = map lock_in done.task.given.bundles

  -- the store's layout is the batch's
  abbrev under : List (List ℕ)
  under = under_in batch

  under-is : parts.store.under ≡ under
  under-is = kept.window.home.under

  -- the effect fits the store
  pub fits : Fits parts.store (whole_effect parts.store.under done.task.given.bundles done.old done.effect)
  fits = subst (λ u. Fits parts.store (whole_effect u done.task.given.bundles done.old done.effect)) (sym under-is) fits-it

  -- no position has the greatest number
  pub numbered : All (λ (e : Entry). e.pos < 4294967295) (with_change_at p (known_entry done.foot) parts.rol.entries)
  numbered =
      all-changed (λ (e : Entry). e.pos < 4294967295) (λ (e : Entry). e.pos < 4294967295) (λ q. nat_eq q p) (known_entry done.foot)
      parts.rol.entries
      (λ e h. h) (λ e h. h)
      (each-there (λ (e : Entry). e.pos < 4294967295) at.retired parts.rol.entries kept.window.entries_are.row
      (λ q e is.
      (let same = position-of parts.rol.entries q e is in
      let high = (from-first at.retired parts.rol.entries q e kept.window.entries_are.row is).1 in
      let front = kept.window.entries_are.front in
      let low = stage.front_low in
      let most = count_law (tree_machine (program_in batch) batch.inputs batch.limits) (program_in batch) batch.inputs batch.limits in
      let few = kept.fit.few in
      omega arith)))

  -- what stands where the attempt is the present one
  module _ (is_fresh : fresh ≡ true) where
    now_present : attempt ≡ present at p
    now_present = is-present is_fresh

    abbrev here : Entry
    here = (found (is-present is_fresh)).0

    here-is : entry_at parts.rol.entries p ≡ Some here
    here-is = (found (is-present is_fresh)).1

    stands : IsEntry (run_in batch) at p here
    stands = kept.window.entries_are.each p here here-is

    is-out : here.state ≡ entry.Out
    is-out =
        let posted = subst (λ a. Contains at.posted (p, a)) now_present task.posted in
        state-out here.state (λ w. stands.waits.0 w posted)
        (λ a. task.untaken (subst (λ b. Contains at.taken (p, b)) (sym now_present) (stage.applied_taken p (stands.applied.0 a) posted)))

    -- so it is once it is known what it touches
    known-there : entry_at (with_change_at p (known_entry done.foot) parts.rol.entries) p ≡ Some (known_entry done.foot here)
    known-there =
        changed (λ q. nat_eq q p) (known_entry done.foot) parts.rol.entries p (λ x. refl)
        ∙ (ap (option_map (changed_where (nat_eq p p) (known_entry done.foot))) here-is
        ∙ ap (λ b. Some (changed_where b (known_entry done.foot) here)) (eq-eqb p p refl))

    pub out : IsSomeAnd (entry_at (with_change_at p (known_entry done.foot) parts.rol.entries) p) (λ e. e.state ≡ entry.Out)
    out = subst (λ o. IsSomeAnd o (λ (x : Entry). x.state ≡ entry.Out)) (sym known-there) is-out

    -- the task was given what the store gives
    given : IsGiven batch.work batch.inputs batch.limits (task_of batch.work done) (state_of parts.store)
    given =
        subst (IsGiven batch.work batch.inputs batch.limits (task_of batch.work done))
        (sym (backed-state (run_in batch) batch.faults (start_in batch) batch.recovery at parts.rol.entries parts.store parts.backup
        kept.window.backed))
        (task.given now_present)

    -- with the old values put back the bundles are as they were lent
    came : put_back under done.old done.task.given.bundles ≡ map (bundle_of under (state_of parts.store)) done.task.held
    came = ap (λ (g : Given). g.bundles) given

    -- they have the locks of the entry
    locks-held : locks ≡ here.held
    locks-held =
        sym (same_locks_back under done.old done.task.given.bundles) ∙ (ap (map lock_in) came
        ∙ (bundle_locks under (state_of parts.store) done.task.held ∙ (task.is_task.is_of.held ∙ sym entry-held)))
      where
        same : stands.subthread ≡ s
        same = let both = sym stands.is_there ∙ task.is_task.is_of.position in cc both

        entry-held : here.held ≡ s.held
        entry-held = stands.is_of.held ∙ ap (λ (x : Subthread). x.held) same

    came-away : All (λ b. IsAway parts.store (lock_in b)) done.task.given.bundles
    came-away =
        all-locks (IsAway parts.store) done.task.given.bundles
        (λ l among. away-there parts.rol.entries parts.store.away kept.window.locks p here here-is is-out l
        (subst (λ ls. Contains ls l) locks-held among))

    came-as-lent : put_back under done.old done.task.given.bundles
        ≡ map (λ (b : Bundle). bundle_of under (state_of parts.store) b.lock) (put_back under done.old done.task.given.bundles)
    came-as-lent =
        subst (λ bundles. bundles ≡ map (λ (b : Bundle). bundle_of under (state_of parts.store) b.lock) bundles) (sym came)
        (as-lent under (state_of parts.store) done.task.held)

    came-within : All (λ w. is_under under locks w.0 ≡ true) done.old
    came-within =
        subst (λ ls. All (λ w. is_under under ls w.0 ≡ true) done.old) (same_locks_back under done.old done.task.given.bundles) run.within

    -- so they may come home
    pub comes : MayComeHome parts.store done.task.given.bundles done.old
    comes =
        record {
          away = came-away;
          as_lent = subst (λ u. put_back u done.old done.task.given.bundles
              ≡ map (λ (b : Bundle). bundle_of u (state_of parts.store) b.lock) (put_back u done.old done.task.given.bundles))
              (sym under-is) came-as-lent;
          rising = run.rising;
          within = subst (λ u. All (λ w. is_under u locks w.0 ≡ true) done.old) (sym under-is) came-within;
        }

  module _ (next : Next) (place : Place) (next_is : done.next ≡ next) (at_is : done.at ≡ place.at) (ctl_is : done.ctl ≡ place.ctl) where
    ring-then : (applies : Bool)
        → RingStands batch (IsPlaceIn batch) (happens (dependence_in batch) batch.faults at (event.Take p attempt applies))
        (learning_from p t next parts.ring.table) (placing_from p t place parts.ring.table parts.places.items)
    ring-then applies = go (awaits parts.ring.table t p) refl
      where
        same : t ≡ s.thread
        same = task.is_task.is_of.thread

        rests : Rests (program_in batch) next.sync (body_at (program_in batch) batch.inputs batch.limits p s).at
            (record { at = place.at; ctl = place.ctl; me = s.thread })
        rests =
            subst (λ (n : Next). Rests (program_in batch) n.sync (body_at (program_in batch) batch.inputs batch.limits p s).at
            (record { at = place.at; ctl = place.ctl; me = s.thread }))
            (sym runs.next ∙ next_is)
            (subst (λ here. Rests (program_in batch) (body_at (program_in batch) batch.inputs batch.limits p s).next.sync
            (body_at (program_in batch) batch.inputs batch.limits p s).at here)
            (λ i. record { at = at_is i; ctl = ctl_is i; me = same i }) runs.place)

        go : (b : Bool) → awaits parts.ring.table t p ≡ b
            → RingStands batch (IsPlaceIn batch) (happens (dependence_in batch) batch.faults at (event.Take p attempt applies))
            (cond b (learning parts.ring.table t next) parts.ring.table) (cond b (slice_set parts.places.items t place) parts.places.items)
        go true e =
            subst (λ u. RingStands batch (IsPlaceIn batch) (happens (dependence_in batch) batch.faults at (event.Take p attempt applies))
            (learning parts.ring.table u next) (slice_set parts.places.items u place)) (sym same)
            (ring_learnt batch (IsPlaceIn batch) at parts.ring.table parts.places.items kept.ring p attempt applies s there next place
            (sym next_is ∙ runs.next) rests
            (subst (λ u. awaited parts.ring.table u ≡ Some p) same (number-is p (awaited parts.ring.table t) e)))
        go false e =
            ring_stale batch (IsPlaceIn batch) at parts.ring.table parts.places.items kept.ring p attempt applies s there
            (subst (λ u. awaited parts.ring.table u ≡ Some p → ⊥) same (number-not p (awaited parts.ring.table t) e))

    seats-then : length (learning_from p t next parts.ring.table).seats ≡ length parts.ring.table.seats
    seats-then = go (awaits parts.ring.table t p)
      where
        go : (b : Bool) → length (cond b (learning parts.ring.table t next) parts.ring.table).seats ≡ length parts.ring.table.seats
        go true = learnt_length parts.ring.table t next
        go false = refl

    abbrev known : List Entry
    known = with_change_at p (known_entry done.foot) parts.rol.entries

    abbrev table-then : Table
    table-then = learning_from p t next parts.ring.table

    abbrev stage-then : Bool → Stage
    stage-then applies = happens (dependence_in batch) batch.faults at (event.Take p attempt applies)

    window-then : (store : Stored) (entries : List Entry) (backup : Backup) (applies : Bool)
        → Allowed (dependence_in batch) batch.faults at (event.Take p attempt applies) → (applies ≡ true → fresh ≡ true)
        → IsAppliedWhere applies batch.recovery p locks (effect_of batch.work done) parts.store store known entries parts.backup backup
        → WindowStands batch (stage-then applies) table-then entries store backup
    window-then store entries backup false may is applied =
        rw (applied.0, applied.1, applied.2)
        (window-stale batch kept.fit at stage stands-by parts.ring.table parts.store parts.backup parts.rol.entries kept.window p attempt s
        done.foot there runs.foot may table-then home)
      where
        home : IsHome batch table-then parts.store
        home =
            record {
              threads = (let many = kept.window.home.threads in let same = seats-then in omega arith);
              cells = kept.window.home.cells;
              under = kept.window.home.under;
              locks = kept.window.home.locks;
            }
    window-then store entries backup true may is applied =
        subst (λ others. WindowStands batch (stage-then true) table-then others store backup) (sym applied.entries_are)
        (window-take batch kept.fit at stage stands-by parts.ring.table parts.store parts.backup parts.rol.entries kept.window p attempt s
        done.foot there runs.foot may (here (is refl)) (here-is (is refl)) (is-out (is refl)) (effect_of batch.work done) effect_is
        table-then store home applied.state applied.shape
        (applied.away ∙ ap (λ ls. marked ls false parts.store.away) (locks-held (is refl))) applied.back
        backup counted)
      where
        present_is : attempt ≡ present at p
        present_is = is-present (is refl)

        effect_is : effect_of batch.work done ≡ done_by (members_at (run_in batch) batch.faults at p) (state_of parts.store)
        effect_is =
            effect-fresh batch kept.fit at stage stands-by parts.ring.table parts.store parts.backup parts.rol.entries kept.window p s done
            there below task.is_task.is_of runs kept.ring.stands
            (task.is_task.mask ∙ ap (mask_of batch.faults p) present_is)
            (given (is refl))

        counted : AdvancesBy batch.recovery
            (with_change_at p (applied_entry (history_by batch.recovery (old_of (effect_of batch.work done) (state_of parts.store)))
            (effect_of batch.work done).prints) known)
            parts.backup backup
        counted = subst (λ others. AdvancesBy batch.recovery others parts.backup backup) applied.entries_are applied.counted

        home : IsHome batch table-then store
        home =
            record {
              threads = (let many = kept.window.home.threads in let same = seats-then in let shape = applied.shape.threads in omega arith);
              cells = applied.shape.cells ∙ kept.window.home.cells;
              under = applied.shape.under ∙ kept.window.home.under;
              locks = ap length applied.away ∙ (length-marked locks false parts.store.away ∙ kept.window.home.locks);
            }

    -- all is kept
    pub kept-taken : (answer : Bool) → answer ≡ fresh
        → (table : Table) (places : List Place) (others entries : List Entry) (store : Stored) (backup : Backup) (events : List Event)
        → table ≡ table-then → places ≡ placing_from p t place parts.ring.table parts.places.items → others ≡ known
        → IsAppliedWhere answer batch.recovery p locks (whole_effect parts.store.under done.task.given.bundles done.old done.effect)
        parts.store store others entries
        parts.backup backup → events ≡ parts.events.items ++ event.Take p attempt answer ∷ []
        → Keeps batch table places entries store backup events parts.restarts.items parts.issued parts.ended
    kept-taken answer is table places others entries store backup events table_is places_is others_is applied events_is =
        rw (table_is, places_is, events_is, is)
        (keeps_then batch parts.events.items kept.fit kept.journal (event.Take p attempt fresh) allowed table-then
        (placing_from p t place parts.ring.table parts.places.items) entries store backup parts.restarts.items parts.issued parts.ended
        (ring-then fresh)
        (window-then store entries backup fresh allowed (λ e. e)
        (subst (λ u. IsAppliedWhere fresh batch.recovery p locks (whole_effect u done.task.given.bundles done.old done.effect) parts.store
        store known entries parts.backup backup) under-is
        (subst (λ b. IsAppliedWhere b batch.recovery p locks (whole_effect parts.store.under done.task.given.bundles done.old done.effect)
        parts.store store known entries parts.backup backup) is
        (subst (λ others. IsAppliedWhere answer batch.recovery p locks
        (whole_effect parts.store.under done.task.given.bundles done.old done.effect) parts.store store others entries parts.backup backup)
        others_is applied))))
        kept.journal.restarts_are kept.journal.issued_are kept.journal.ended_is)
