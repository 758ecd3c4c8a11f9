-- What a task was given stands while it is out. What an attempt that is out finds at the places that it may touch, and
-- under the locks that it holds, each event leaves as it is, but its own result. States that agree there give a task
-- the same; so with the store as the fold of what is applied the task stands after the event.
use Rattle.std.proofs.Common.{◌≡◌, ◌⊎◌, inl, inr, ℕ, ◌≤◌, List, [], ◌∷◌, ◌++◌, map, Contains, Option, Some, None, refl, sym, ap, subst, ◌∙◌, arith, slice_get}
use Rattle.std.proofs.lemmas.List.Elements.{Contains-append_left}
use Rattle.gp_base.specs.declared.fault.Fault.{Fault}
use Rattle.gp_base.specs.declared.footprint.Loc.TheVariants as loc
use Rattle.gp_base.specs.declared.journal.Event.{Event}
use Rattle.gp_base.specs.declared.journal.Event.TheVariants as event
use Rattle.task_ast.specs.meaning.State.{Location, RegistersOf, CellOf, State, cell_value, number_at}
use Rattle.task_ast.specs.meaning.Footprint.{named_by, joined_registers, child_registers}
use Rattle.task_ast.specs.meaning.Under.{under_lock}
use Rattle.task_ast.specs.Under.{NamesHeld}
use Rattle.task_ast.specs.meaning.Plain.{Subthread, foot_of}
use Rattle.task_ast.proofs.Layouts.{accepted_sizes}
use Rattle.lock_checker.proofs.LocksHeld.{sound}
use Rattle.dependence.specs.meaning.Conflict.{clash_in, foot_at}
use Rattle.dependence.specs.meaning.Restarts.{Dependence, struck_next, restart_of}
use Rattle.dependence.specs.meaning.Journal.{Stage, happens, restarted, stage, Allowed, Lawful}
use Rattle.dependence.specs.meaning.Runs.{feet_of, dependence_of}
use Rattle.dependence.specs.Runs.{lock_feet_of}
use Rattle.dependence.specs.Standing.{present, AreShort}
use Rattle.dependence.specs.Histories.{HasCells}
use Rattle.dependence.specs.Posting.{OutReady}
use Rattle.dependence.specs.Touching.{Agree, MayTouch, own_location, IsApart}
use Rattle.dependence.specs.RunBuffer.{IsOut, buffer_after}
use Rattle.dependence.proofs.Keeping.{laid_law, joined_same}
use Rattle.dependence.proofs.RestartEnds.{attempt-push}
use Rattle.dependence.proofs.RunBuffers.{after-events, event-stands, out-finds}
use Rattle.dependence.proofs.Struck.{Contains-head, Contains-later}
use Rattle.rollback.specs.meaning.Cuts.{cuts_of, rolling_of}
use Rattle.rollback.specs.States.{held_after}
use Rattle.rollback.proofs.States.{happens-held, held-finds}
use Rattle.task_ast.specs.SyncOps.{joined_by}
use Rattle.record_store.specs.Given.{given_of, joined_value, bundle_of}
use Rattle.record_store.proofs.Givens.{joined_is}
use Rattle.subthread.specs.declared.task.Task.{Task}
use Rattle.whole_run.specs.declared.recovery.Recovery.{Recovery}
use Rattle.whole_run.specs.declared.recovery.Recovery.TheVariants.{Selective, Rollback}
use Rattle.whole_run.specs.Recovering.{recovering}
use Rattle.whole_run.specs.View.{View, program_in, run_in, dependence_in, under_in, start_in, now, state_in, grown, Stands}
use Rattle.whole_run.specs.Gives.{HasWaited}
use Rattle.whole_run.specs.Takes.{TaskStands}
use Rattle.whole_run.proofs.Events.{stage-stands, now-grown}
use Rattle.whole_run.proofs.Folds.{folded, blocks-after, held-stands}
use Rattle.whole_run.proofs.UnderLocks.{foot-there, buffer-locked, held-locked}

module _ (dependence : Dependence) (faults : List Fault) (at : Stage) where
  -- what was posted stays so
  pub posted-kept : (e : Event) (pair : ℕ × ℕ) → Contains at.posted pair → Contains (happens dependence faults at e).posted pair
  posted-kept (event.Issue p) pair h = h
  posted-kept (event.Post p attempt) pair h = Contains-append_left at.posted ((p, attempt) ∷ []) pair h
  posted-kept (event.Take p attempt applies) pair h = h
  posted-kept (event.Restart number) pair h = go (struck_next dependence faults at.progress)
    where
      go : (o : Option ℕ) → Contains (restarted dependence at o).posted pair
      go None = h
      go (Some p) = h
  posted-kept (event.Retire p) pair h = h

  -- attempts rise
  present-grows : (e : Event) (q : ℕ) → present at q ≤ present (happens dependence faults at e) q
  present-grows (event.Issue p) q = omega arith
  present-grows (event.Post p attempt) q = omega arith
  present-grows (event.Take p attempt applies) q = omega arith
  present-grows (event.Restart number) q = go (struck_next dependence faults at.progress)
    where
      go : (o : Option ℕ) → present at q ≤ present (restarted dependence at o) q
      go None = omega arith
      go (Some p) = let h = attempt-push at.progress.made (restart_of dependence at.progress p) q in omega arith
  present-grows (event.Retire p) q = omega arith

-- ---- what an attempt that is out finds

module _ (run : List Subthread) (faults : List Fault) (start : State) (cells : HasCells start) (short : AreShort faults) where
  module _ (p attempt : ℕ) where
    -- it finds at the places that it may touch what it found before the event
    pub finds-same : (recovery : Recovery) (events : List Event) (e : Event) → Lawful (recovering recovery run) faults events
        → let at = stage (recovering recovery run) faults events in let later = happens (recovering recovery run) faults at e in
        Allowed (recovering recovery run) faults at e → IsOut at p attempt → IsOut later p attempt
        → Agree (MayTouch own_location (foot_at (feet_of run) p)) (folded run faults start later) (folded run faults start at)
    finds-same Selective events e lawful allowed out still place touched =
        let both = after-events run faults start cells short events lawful in
        let at = stage (dependence_of run) faults events in
        let buffer = buffer_after run faults start events in
        let later = event-stands run faults start cells at buffer both.0 both.1 e allowed in
        ap (λ (state : State). state place) (sym later.state_is)
        ∙ (out-finds run faults start cells at buffer both.0 both.1 e p attempt allowed out still place touched
        ∙ ap (λ (state : State). state place) both.1.state_is)
    finds-same (Rollback every) events e lawful allowed out still place touched =
        let cuts = cuts_of every run in
        let at = stage (rolling_of cuts run) faults events in
        let held = held_after run faults start cuts events in
        let blocks = blocks-after run faults short every events lawful in
        let stands = held-stands run faults short every events lawful start cells in
        let later = happens-held run faults start cuts cells at e held blocks stands allowed in
        ap (λ (state : State). state place) (sym later.state_is)
        ∙ (held-finds run faults start cuts cells at e held p attempt blocks stands allowed out still place touched
        ∙ ap (λ (state : State). state place) stands.state_is)

    -- and what stands under the locks that it holds
    module _ (under : List (List ℕ)) (once : IsApart under) (names : NamesHeld under run) (s : Subthread) (there : slice_get run p ≡ Some s)
        (l c : ℕ) (holds : Contains s.held l) (over : Contains (under_lock under l) c) where
      pub locked-same : (recovery : Recovery) (events : List Event) (e : Event) → Lawful (recovering recovery run) faults events
          → let at = stage (recovering recovery run) faults events in let later = happens (recovering recovery run) faults at e in
          OutReady (clash_in (lock_feet_of run)) at
          → Allowed (recovering recovery run) faults at e → HasWaited recovery run at e → IsOut at p attempt → IsOut later p attempt
          → folded run faults start later (CellOf c) ≡ folded run faults start at (CellOf c)
      locked-same Selective events e lawful ready allowed waited out still =
          let both = after-events run faults start cells short events lawful in
          let at = stage (dependence_of run) faults events in
          let buffer = buffer_after run faults start events in
          let later = event-stands run faults start cells at buffer both.0 both.1 e allowed in
          ap (λ (state : State). state (CellOf c)) (sym later.state_is)
          ∙ (buffer-locked run faults at ready under once names p attempt s there out l c holds over both.0 buffer e allowed waited still
          ∙ ap (λ (state : State). state (CellOf c)) both.1.state_is)
      locked-same (Rollback every) events e lawful ready allowed waited out still =
          let cuts = cuts_of every run in
          let at = stage (rolling_of cuts run) faults events in
          let held = held_after run faults start cuts events in
          let blocks = blocks-after run faults short every events lawful in
          let stands = held-stands run faults short every events lawful start cells in
          let later = happens-held run faults start cuts cells at e held blocks stands allowed in
          ap (λ (state : State). state (CellOf c)) (sym later.state_is)
          ∙ (held-locked run faults at ready under once names p attempt s there out l c holds over start every blocks held e allowed waited
          still
          ∙ ap (λ (state : State). state (CellOf c)) stands.state_is)

-- the locks lie apart, and each subthread keeps to its own
locks-apart : (view : View) → Stands view → IsApart (under_in view.batch)
locks-apart view stands = laid_law (program_in view.batch).heads (accepted_sizes (program_in view.batch) stands.suits.code.accepted)

names-held : (view : View) → Stands view → NamesHeld (under_in view.batch) (run_in view.batch)
names-held view stands = sound (program_in view.batch) view.batch.inputs view.batch.limits stands.suits.code.accepted

map-same : {A B : Type 0} (f g : A → B) (xs : List A) → ((x : A) → Contains xs x → f x ≡ g x) → map f xs ≡ map g xs
map-same f g [] same = refl
map-same f g (x ∷ xs) same = λ i. same x (Contains-head x xs) i ∷ map-same f g xs (λ y there. same y (Contains-later x xs y there)) i

-- states that agree at the registers of a subthread and under its locks give it the same
same-given : (under : List (List ℕ)) (s : Subthread) (left right : State)
    → ((t : ℕ) → Contains (foot_of s).reads (loc.Regs t) ⊎ Contains (foot_of s).writes (loc.Regs t)
    → left (RegistersOf t) ≡ right (RegistersOf t))
    → ((l c : ℕ) → Contains s.held l → Contains (under_lock under l) c → left (CellOf c) ≡ right (CellOf c))
    → given_of under left s.thread (joined_by s.begins.sync) s.held ≡ given_of under right s.thread (joined_by s.begins.sync) s.held
same-given under s left right registers cells = λ i. record { regs = regs i; joined = joined i; bundles = bundles i }
  where
    regs : left (RegistersOf s.thread) ≡ right (RegistersOf s.thread)
    regs = registers s.thread (inr (Contains-head (loc.Regs s.thread) (child_registers s.child ++ map loc.Rec (named_by s.actions).writes)))

    joined : joined_value left (joined_by s.begins.sync) ≡ joined_value right (joined_by s.begins.sync)
    joined =
        joined_is s.begins.sync left
        ∙ (joined_same s.begins.sync left right
        (λ h there. registers h
        (inl (Contains-append_left (joined_registers s.begins.sync) (map loc.Rec (named_by s.actions).reads) (loc.Regs h) there)))
        ∙ sym (joined_is s.begins.sync right))

    bundle : (l : ℕ) → Contains s.held l → bundle_of under left l ≡ bundle_of under right l
    bundle l holds =
        ap (λ values. record { lock = l; cells = values })
        (map-same (cell_value left) (cell_value right) (under_lock under l)
        (λ c over. ap (λ values. number_at values 0) (cells l c holds over)))

    bundles : map (bundle_of under left) s.held ≡ map (bundle_of under right) s.held
    bundles = map-same (bundle_of under left) (bundle_of under right) s.held bundle

module _ (view : View) (stands : Stands view) (e : Event)
    (allowed : Allowed (dependence_in view.batch) view.batch.faults (now view) e)
    (waited : HasWaited view.batch.recovery (run_in view.batch) (now view) e) where
  abbrev later : Stage
  later = happens (dependence_in view.batch) view.batch.faults (now view) e

  state-later : state_in (grown view e) ≡ folded (run_in view.batch) view.batch.faults (start_in view.batch) later
  state-later = ap (folded (run_in view.batch) view.batch.faults (start_in view.batch)) (now-grown view e)

  module _ (task : Task) (t : TaskStands view task) (untaken : ¬ Contains (now (grown view e)).taken (task.pos, task.attempt)) where
    present-later : task.attempt ≡ present (now (grown view e)) task.pos → task.attempt ≡ present later task.pos
    present-later same = same ∙ ap (λ at. present at task.pos) (now-grown view e)

    -- no attempt is posted before it is the present one, so what is the present one now was so before
    was : task.attempt ≡ present (now (grown view e)) task.pos → task.attempt ≡ present (now view) task.pos
    was same =
        let most = ((stage-stands view stands).posted_low task.pos task.attempt t.posted).1 in
        let grows = present-grows (dependence_in view.batch) view.batch.faults (now view) e task.pos in
        let moved = present-later same in
        omega arith

    abbrev s : Subthread
    s = t.is_task.subthread

    module _ (before : task.attempt ≡ present (now view) task.pos) (after : task.attempt ≡ present later task.pos) where
      is-out : IsOut (now view) task.pos task.attempt
      is-out = record { posted = t.posted; untaken = t.untaken; present = before }

      still-out : IsOut later task.pos task.attempt
      still-out =
          record {
            posted = posted-kept (dependence_in view.batch) view.batch.faults (now view) e (task.pos, task.attempt) t.posted;
            untaken = λ h. untaken (subst (λ at. Contains at.taken (task.pos, task.attempt)) (sym (now-grown view e)) h);
            present = after;
          }

      -- a place that is as it was in the fold is so in the store
      left-alone : (place : Location)
          → folded (run_in view.batch) view.batch.faults (start_in view.batch) later place ≡ state_in view place
          → state_in view place ≡ state_in (grown view e) place
      left-alone place same = sym (ap (λ (state : State). state place) state-later ∙ same)

      -- so are the registers that it may touch, and the cells under its locks
      registers-same : (u : ℕ) → Contains (foot_of s).reads (loc.Regs u) ⊎ Contains (foot_of s).writes (loc.Regs u)
          → state_in view (RegistersOf u) ≡ state_in (grown view e) (RegistersOf u)
      registers-same u touched =
          left-alone (RegistersOf u)
          (finds-same (run_in view.batch) view.batch.faults (start_in view.batch) (λ c. refl) stands.short task.pos task.attempt
          view.batch.recovery view.events e stands.lawful allowed is-out still-out (RegistersOf u)
          (subst (λ foot. Contains foot.reads (loc.Regs u) ⊎ Contains foot.writes (loc.Regs u))
          (sym (foot-there (run_in view.batch) task.pos s t.is_task.is_of.position)) touched))

      cells-same : (l c : ℕ) → Contains s.held l → Contains (under_lock (under_in view.batch) l) c
          → state_in view (CellOf c) ≡ state_in (grown view e) (CellOf c)
      cells-same l c holds over =
          left-alone (CellOf c)
          (locked-same (run_in view.batch) view.batch.faults (start_in view.batch) (λ c. refl) stands.short task.pos task.attempt
          (under_in view.batch) (locks-apart view stands) (names-held view stands) s t.is_task.is_of.position l c holds over
          view.batch.recovery view.events e stands.lawful stands.ready allowed waited is-out still-out)

      given-same : given_of (under_in view.batch) (state_in view) task.thread (joined_by task.begins.sync) task.held
          ≡ given_of (under_in view.batch) (state_in (grown view e)) task.thread (joined_by task.begins.sync) task.held
      given-same =
          let is = t.is_task.is_of in
          rw (is.thread, is.begins, is.held)
          (same-given (under_in view.batch) s (state_in view) (state_in (grown view e)) registers-same cells-same)

    pub task-kept : TaskStands (grown view e) task
    task-kept =
        record {
          is_task = t.is_task;
          posted = subst (λ at. Contains at.posted (task.pos, task.attempt)) (sym (now-grown view e))
              (posted-kept (dependence_in view.batch) view.batch.faults (now view) e (task.pos, task.attempt) t.posted);
          untaken = untaken;
          given = λ same. t.given (was same) ∙ given-same (was same) (present-later same);
        }
