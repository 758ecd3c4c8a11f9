-- The history buffer of a run stands after each lawful event, and a complete journal leaves what the plain run leaves.
-- Its members are what the subthreads do at their present attempts, damaged where a fault says so. They keep to their
-- footprints, so that a result that is applied, and a restart, go as in Buffers. What has retired is a member without
-- damage, so that the fold of it is that of the plain run.
use Rattle.std.proofs.Common.{◌≡◌, inl, inr, ℕ, ◌<◌, ◌≤◌, Bool, true, false, cond, ◌&&◌, List, [], ◌∷◌, ◌++◌, Contains, Option, Some, None, nat_eq, refl, sym, ap, subst, ◌∙◌, arith, slice_get, length}
use Rattle.std.specs.Prelude.{pos}
use Rattle.std.proofs.lemmas.Bool.{false≢true, false_from_ne_true, eqb-true, and_parts, cases_lt}
use Rattle.std.proofs.lemmas.List.Elements.{Contains-push}
use Rattle.gp_base.specs.declared.limits.Limits.{Limits}
use Rattle.gp_base.specs.declared.feed.Inputs.{Inputs}
use Rattle.gp_base.specs.declared.fault.Fault.{Fault}
use Rattle.gp_base.specs.declared.journal.Event.{Event}
use Rattle.gp_base.specs.declared.journal.Event.TheVariants as event
use Rattle.task_ast.specs.meaning.Tree.{Program}
use Rattle.task_ast.specs.meaning.State.{Location, State}
use Rattle.task_ast.specs.meaning.Effect.{effect}
use Rattle.task_ast.specs.meaning.Plain.{Subthread}
use Rattle.task_ast.specs.Plain.{tree_machine, order, opening, last_state}
use Rattle.task_ast.specs.Fold.{fold}
use Rattle.task_ast.specs.Members.{member_of, member_in}
use Rattle.task_ast.specs.Position.{before}
use Rattle.task_ast.proofs.Positions.{fold_below, lines_are, last_is}
use Rattle.task_ast.proofs.WholeFolds.{undamaged}
use Rattle.dependence.specs.meaning.Conflict.{foot_at}
use Rattle.dependence.specs.Conflict.{ClashIn}
use Rattle.dependence.specs.meaning.Dependents.{is_member}
use Rattle.dependence.specs.meaning.Restarts.{struck_next, restart_of}
use Rattle.dependence.specs.Restarts.{mask_of, mask_now}
use Rattle.dependence.specs.meaning.Journal.{Stage, initial_stage, Allowed, happens, restarted, MayRetire, LawfulFrom, Lawful, stage, stage_from, Complete}
use Rattle.dependence.specs.meaning.Runs.{feet_of, dependence_of}
use Rattle.dependence.specs.Standing.{present, NamesAttempt, AreShort, StageStands}
use Rattle.dependence.specs.Histories.{HasCells}
use Rattle.dependence.specs.Touching.{Agree, MayWrite, MayTouch, done_by, own_location}
use Rattle.dependence.specs.Removal.{without}
use Rattle.dependence.specs.Buffer.{Buffer, MayApply, MayUndo, buffer_without}
use Rattle.dependence.specs.RunBuffer.{members_at, RunStands, initial_buffer, buffer_restarted, buffer_happens, buffer_from, buffer_after, IsOut}
use Rattle.dependence.proofs.Conflicting.{conflicting-is}
use Rattle.dependence.proofs.DependentSets.{is_member-is}
use Rattle.dependence.proofs.RestartEnds.{attempt-push}
use Rattle.dependence.proofs.Struck.{Contains-head, Contains-later}
use Rattle.dependence.proofs.Standing.{initial-stands, happens-stands, keeps-retired, run-redoes, run-later}
use Rattle.dependence.proofs.Folds.{Kept}
use Rattle.dependence.proofs.Keeping.{run-keeps, kept-feet}
use Rattle.dependence.proofs.Buffers.{applied-stands, applied-finds, undone-stands, undone-finds, members-stand, front-stands, fold_members, fold_all}

-- a mask is 0 where no fault names the attempt
unmasked : (faults : List Fault) (p attempt : ℕ) → ¬ NamesAttempt faults p attempt → mask_of faults p attempt ≡ pos 0
unmasked [] p attempt free = refl
unmasked (fault ∷ rest) p attempt free =
    go (nat_eq fault.pos p && nat_eq fault.attempt attempt) refl
    (unmasked rest p attempt (λ n. free (n.0, Contains-later fault rest n.0 n.1, n.2, n.3)))
  where
    go : (b : Bool) → (nat_eq fault.pos p && nat_eq fault.attempt attempt) ≡ b → mask_of rest p attempt ≡ pos 0
        → cond b fault.mask (mask_of rest p attempt) ≡ pos 0
    go true e ih =
        absurd (let h = and_parts (nat_eq fault.pos p) (nat_eq fault.attempt attempt) e in
        free (fault, Contains-head fault rest, eqb-true fault.pos p h.0, eqb-true fault.attempt attempt h.1))
    go false e ih = ih

module _ (run : List Subthread) (faults : List Fault) where
  -- the test of conflict in the words of footprints
  clash-is : (p q : ℕ) → ClashIn (feet_of run) p q → (dependence_of run).clash p q ≡ true
  clash-is p q c = (conflicting-is (foot_at (feet_of run) p) (foot_at (feet_of run) q)).1 c

  module _ (start : State) (cells : HasCells start)
      (at : Stage) (buffer : Buffer) (stands : StageStands (dependence_of run) faults at)
      (holds : RunStands run faults start at buffer) where
    abbrev Writes : ℕ → Location → Type 0
    Writes p = MayWrite own_location (foot_at (feet_of run) p)

    abbrev Touches : ℕ → Location → Type 0
    Touches p = MayTouch own_location (foot_at (feet_of run) p)

    kept : Kept Writes Touches (ClashIn (feet_of run)) (members_at run faults at)
    kept =
        kept-feet own_location (foot_at (feet_of run)) (members_at run faults at) (run-keeps run (mask_now faults at.progress.made))

    -- what is out may be applied, and has not retired
    out-applies : (p : ℕ) → Contains at.posted (p, present at p) → ¬ Contains at.taken (p, present at p)
        → MayApply (ClashIn (feet_of run)) at.applied at.progress.front p
    out-applies p posted untaken =
        record {
          below = (stands.posted_low p (present at p) posted).0;
          absent = false_from_ne_true (at.applied p) (λ e. untaken (stands.applied_taken p e posted));
          ready = λ q l c. stands.ready p q posted l (clash-is q p c);
        }

    out-young : (p : ℕ) → Contains at.posted (p, present at p) → ¬ Contains at.taken (p, present at p) → at.retired ≤ p
    out-young p posted untaken =
        elim (cases_lt p at.retired) [
          | inl l ↦ absurd (untaken (stands.applied_taken p (stands.retired_applied p l) posted))
          | inr l ↦ l
        ]

    module _ (p attempt : ℕ) (allowed : Allowed (dependence_of run) faults at (event.Take p attempt true)) where
      is_present : attempt ≡ present at p
      is_present = eqb-true attempt (present at p) (sym allowed.decided)

      posted : Contains at.posted (p, present at p)
      posted = subst (λ a. Contains at.posted (p, a)) is_present allowed.posted

      untaken : ¬ Contains at.taken (p, present at p)
      untaken h = allowed.untaken (subst (λ a. Contains at.taken (p, a)) (sym is_present) h)

      take-stands : RunStands run faults start (happens (dependence_of run) faults at (event.Take p attempt true))
          (buffer_happens run faults at (event.Take p attempt true) buffer)
      take-stands =
          let may = out-applies p posted untaken in
          applied-stands Writes Touches (ClashIn (feet_of run))
          (members_at run faults at) kept start at.applied at.retired at.progress.front buffer holds
          p (out-young p posted untaken) may.below may.absent may.ready

      take-finds : (q other : ℕ) → IsOut at q other → ¬ ((p ≡ q) × (attempt ≡ other))
          → Agree (Touches q) (buffer_happens run faults at (event.Take p attempt true) buffer).state buffer.state
      take-finds q other out apart =
          let may = out-applies p posted untaken in
          let may_q =
          out-applies q (subst (λ a. Contains at.posted (q, a)) out.present out.posted)
          (λ h. out.untaken (subst (λ a. Contains at.taken (q, a)) (sym out.present) h)) in
          applied-finds Writes Touches (ClashIn (feet_of run))
          (members_at run faults at) kept start at.applied at.retired at.progress.front buffer holds
          p (out-young p posted untaken) may.below may.absent may.ready
          q (λ same. apart (sym same, is_present ∙ (ap (present at) (sym same) ∙ sym out.present))) may_q.absent may_q.ready

    module _ (p : ℕ) (next : struck_next (dependence_of run) faults at.progress ≡ Some p) where
      abbrev part : ℕ → Bool
      part q = is_member q ((dependence_of run).redo p at.progress.front)

      abbrev after_it : Stage
      after_it = restarted (dependence_of run) at (Some p)

      may-undo : MayUndo (ClashIn (feet_of run)) at.retired at.progress.front part
      may-undo =
          record {
            late = λ q l. false_from_ne_true (part q)
                (λ e. keeps-retired (dependence_of run) faults at (run-later run) stands p q next l
                ((is_member-is q ((dependence_of run).redo p at.progress.front)).0 e));
            closed = λ q r l m e c.
                (is_member-is r ((dependence_of run).redo p at.progress.front)).1
                ((run-redoes run).closed p at.progress.front q r
                ((is_member-is q ((dependence_of run).redo p at.progress.front)).0 e) l m (clash-is q r c));
          }

      -- the attempts of the others are as before
      same_present : (q : ℕ) → part q ≡ false → present after_it q ≡ present at q
      same_present q e = let h = rw e at (attempt-push at.progress.made (restart_of (dependence_of run) at.progress p) q) in omega arith

      same_member : (q : ℕ) → without at.applied part q ≡ true → members_at run faults at q ≡ members_at run faults after_it q
      same_member q e = go (part q) refl e
        where
          go : (b : Bool) → part q ≡ b → cond b false (at.applied q) ≡ true → members_at run faults at q ≡ members_at run faults after_it q
          go true f g = absurd (false≢true g)
          go false f g = ap (λ attempt. member_of (mask_of faults q attempt) (slice_get run q)) (sym (same_present q f))

      restart-stands : RunStands run faults start after_it (buffer_restarted run at (Some p) buffer)
      restart-stands =
          members-stand (ClashIn (feet_of run)) (members_at run faults at) (members_at run faults after_it) start
          (without at.applied part) at.retired at.progress.front
          (buffer_without part at.progress.front buffer) same_member
          (undone-stands Writes Touches (ClashIn (feet_of run))
          (members_at run faults at) kept start at.applied at.retired at.progress.front buffer holds cells part
          may-undo.late may-undo.closed)

      restart-finds : (q attempt : ℕ) → IsOut at q attempt → attempt ≡ present after_it q
          → Agree (Touches q) (buffer_restarted run at (Some p) buffer).state buffer.state
      restart-finds q attempt out still =
          let may =
          out-applies q (subst (λ a. Contains at.posted (q, a)) out.present out.posted)
          (λ h. out.untaken (subst (λ a. Contains at.taken (q, a)) (sym out.present) h)) in
          undone-finds Writes Touches (ClashIn (feet_of run))
          (members_at run faults at) kept start at.applied at.retired at.progress.front buffer holds cells part
          may-undo.late may-undo.closed
          q may.below may.absent
          (false_from_ne_true (part q) (λ e. let h =
          rw e at (attempt-push at.progress.made (restart_of (dependence_of run) at.progress p) q) in let same = out.present in
          omega arith))

    pub event-stands : (e : Event) → Allowed (dependence_of run) faults at e
        → RunStands run faults start (happens (dependence_of run) faults at e) (buffer_happens run faults at e buffer)
    event-stands (event.Issue p) allowed =
        front-stands (ClashIn (feet_of run)) (members_at run faults at) start at.applied at.retired at.progress.front buffer holds
    event-stands (event.Post p attempt) allowed = holds
    event-stands (event.Take p attempt true) allowed = take-stands p attempt allowed
    event-stands (event.Take p attempt false) allowed = holds
    event-stands (event.Restart number) allowed = go (struck_next (dependence_of run) faults at.progress) refl
      where
        go : (o : Option ℕ) → struck_next (dependence_of run) faults at.progress ≡ o
            → RunStands run faults start (restarted (dependence_of run) at o) (buffer_restarted run at o buffer)
        go None e = holds
        go (Some p) e = restart-stands p e
    event-stands (event.Retire p) allowed =
        record {
          state_is = holds.state_is;
          histories_are = λ q l. holds.histories_are q (let same = allowed.oldest in omega arith);
          lines_are = λ q l. holds.lines_are q (let same = allowed.oldest in omega arith);
          others_have_none = λ q l. holds.others_have_none q (let same = allowed.oldest in omega arith);
          closed = holds.closed;
          below = holds.below;
        }

    -- what an attempt that is out finds stays as it is while it is out
    pub out-finds : (e : Event) (q attempt : ℕ) → Allowed (dependence_of run) faults at e → IsOut at q attempt
        → IsOut (happens (dependence_of run) faults at e) q attempt
        → Agree (Touches q) (buffer_happens run faults at e buffer).state buffer.state
    out-finds (event.Issue p) q attempt allowed out still place t = refl
    out-finds (event.Post p other) q attempt allowed out still place t = refl
    out-finds (event.Take p other true) q attempt allowed out still place t =
        take-finds p other allowed q attempt out
        (λ same. still.untaken (subst (Contains (at.taken ++ (p, other) ∷ [])) (λ i. (same.0 i, same.1 i))
        (Contains-push at.taken (p, other)))) place t
    out-finds (event.Take p other false) q attempt allowed out still place t = refl
    out-finds (event.Restart number) q attempt allowed out still place t =
        go (struck_next (dependence_of run) faults at.progress) refl still.present place t
      where
        go : (o : Option ℕ) → struck_next (dependence_of run) faults at.progress ≡ o
            → attempt ≡ present (restarted (dependence_of run) at o) q
            → Agree (Touches q) (buffer_restarted run at o buffer).state buffer.state
        go None e same other u = refl
        go (Some p) e same other u = restart-finds p e q attempt out same other u
    out-finds (event.Retire p) q attempt allowed out still place t = refl

  initial-holds : (start : State) → RunStands run faults start initial_stage (initial_buffer start)
  initial-holds start =
      record {
        state_is = refl;
        histories_are = λ p l e. absurd (false≢true e);
        lines_are = λ p l e. absurd (false≢true e);
        others_have_none = λ p l e. refl;
        closed = λ p q l e. absurd (false≢true e);
        below = λ p e. absurd (false≢true e);
      }

  module _ (start : State) (cells : HasCells start) (short : AreShort faults) where
    from : (at : Stage) (events : List Event) (buffer : Buffer) → StageStands (dependence_of run) faults at
        → RunStands run faults start at buffer → LawfulFrom (dependence_of run) faults at events
        → StageStands (dependence_of run) faults (stage_from (dependence_of run) faults at events)
        × RunStands run faults start (stage_from (dependence_of run) faults at events) (buffer_from run faults at events buffer)
    from at [] buffer stands holds lawful = (stands, holds)
    from at (e ∷ rest) buffer stands holds lawful =
        from (happens (dependence_of run) faults at e) rest (buffer_happens run faults at e buffer)
        (happens-stands (dependence_of run) (run-redoes run) faults short at e
        (keeps-retired (dependence_of run) faults at (run-later run) stands) stands lawful.0)
        (event-stands start cells at buffer stands holds e lawful.0) lawful.1

    pub after-events : (events : List Event) → Lawful (dependence_of run) faults events
        → StageStands (dependence_of run) faults (stage (dependence_of run) faults events)
        × RunStands run faults start (stage (dependence_of run) faults events) (buffer_after run faults start events)
    after-events events lawful =
        from initial_stage events (initial_buffer start) (initial-stands (dependence_of run) faults) (initial-holds start) lawful

  -- what has retired is a member without damage
  clean : (at : Stage) → StageStands (dependence_of run) faults at → (q : ℕ) → q < at.retired
      → members_at run faults at q ≡ member_in run (λ p. pos 0) q
  clean at stands q l = ap (λ mask. member_of mask (slice_get run q)) (unmasked faults q (present at q) (stands.retired_clean q l))

  -- the fold of what has retired is that of all, none of them damaged
  retired-fold : (at : Stage) → StageStands (dependence_of run) faults at → (start : State) (p : ℕ) → p ≤ at.retired
      → fold (members_at run faults at) start at.applied p ≡ fold (member_in run (λ q. pos 0)) start (λ q. true) p
  retired-fold at stands start p l =
      fold_members (members_at run faults at) (member_in run (λ q. pos 0)) start at.applied p (λ q m e. clean at stands q (omega arith))
      ∙ fold_all (member_in run (λ q. pos 0)) start at.applied p (λ q m. stands.retired_applied q (omega arith))

-- where all that was issued has retired, the buffer holds the state of the plain run before the front
pub drained-state : (program : Program) (inputs : Inputs) (limits : Limits) (faults : List Fault) (at : Stage) (buffer : Buffer)
    → StageStands (dependence_of (order program inputs limits)) faults at
    → RunStands (order program inputs limits) faults (opening program inputs limits).state at buffer
    → at.retired ≡ at.progress.front → buffer.state ≡ (before program inputs limits at.progress.front).state
drained-state program inputs limits faults at buffer stands holds all =
    let low = stands.front_low in
    holds.state_is
    ∙ (retired-fold (order program inputs limits) faults at stands (opening program inputs limits).state at.progress.front (omega arith)
    ∙ fold_below (tree_machine program inputs limits) program inputs limits at.progress.front (omega arith))

module _ (program : Program) (inputs : Inputs) (limits : Limits) (faults : List Fault) (short : AreShort faults) where
  abbrev run : List Subthread
  run = order program inputs limits

  abbrev start : State
  start = (opening program inputs limits).state

  pub retired-lines : (at : Stage) (buffer : Buffer) (p : ℕ) (s : Subthread) → StageStands (dependence_of run) faults at
      → RunStands run faults start at buffer
      → MayRetire (dependence_of run) faults at p → slice_get run p ≡ Some s → buffer.lines p ≡ s.lines
  retired-lines at buffer p s stands holds may there =
      let oldest = may.oldest in
      let after =
      happens-stands (dependence_of run) (run-redoes run) faults short at (event.Retire p)
      (keeps-retired (dependence_of run) faults at (run-later run) stands) stands may in
      let whole : members_at run faults at p ≡ member_in run (λ q. pos 0) p =
      clean run faults (happens (dependence_of run) faults at (event.Retire p)) after p (omega arith) in
      holds.lines_are p (omega arith) may.applied
      ∙ (ap (λ m. (done_by m (fold (members_at run faults at) start at.applied p)).prints) whole
      ∙ (ap (λ state. (done_by (member_in run (λ q. pos 0) p) state).prints) (retired-fold run faults at stands start p (omega arith))
      ∙ (ap (λ o. (done_by (member_of (pos 0) o) (fold (member_in run (λ q. pos 0)) start (λ q. true) p)).prints) there
      ∙ (ap (λ e. e.prints) (undamaged (effect s.thread s.begins.sync s.child s.actions
      (fold (member_in run (λ q. pos 0)) start (λ q. true) p)))
      ∙ sym (lines_are (tree_machine program inputs limits) program inputs limits p s there)))))

  pub final-state : (events : List Event) → Complete (dependence_of run) faults events
      → (buffer_after run faults start events).state ≡ (last_state program inputs limits).state
  final-state events complete =
      let h = after-events run faults start (λ c. refl) short events complete.lawful in
      let passed = complete.final.passed in
      let retired = complete.retired in
      h.1.state_is
      ∙ (retired-fold run faults (stage (dependence_of run) faults events) h.0 start
      (stage (dependence_of run) faults events).progress.front (omega arith)
      ∙ (ap (fold (member_in run (λ q. pos 0)) start (λ q. true)) passed
      ∙ (fold_below (tree_machine program inputs limits) program inputs limits (length run) (omega arith)
      ∙ ap (λ plain. plain.state) (last_is (tree_machine program inputs limits) program inputs limits).0)))
