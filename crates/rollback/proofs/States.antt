-- What a run that rolls back holds stands after each event that is allowed, and a complete journal leaves what the
-- plain run leaves. No histories are kept; with those that could have been kept what is held is a history buffer
-- (as_buffer), so that each event but a rollback goes as there (RunBuffers). A rollback puts back the fold before the
-- cut, and what is applied after it lies before the cut.
use Rattle.std.proofs.Common.{◌≡◌, inl, inr, ℕ, zero, suc, ◌+◌, ◌<◌, ◌≤◌, Bool, true, false, cond, ◌&&◌, ◌||◌, List, [], ◌∷◌, Contains, Option, Some, None, nat_eq, nat_lt, refl, sym, ap, subst, ◌∙◌, arith, slice_get}
use Rattle.std.proofs.lemmas.Bool.{false≢true, false_from_ne_true, both_ways, or_left, or_right, cases_lt}
use Rattle.gp_base.specs.declared.limits.Limits.{Limits}
use Rattle.gp_base.specs.declared.feed.Inputs.{Inputs}
use Rattle.gp_base.specs.declared.fault.Fault.{Fault}
use Rattle.gp_base.specs.declared.journal.Event.{Event}
use Rattle.gp_base.specs.declared.journal.Event.TheVariants as event
use Rattle.task_ast.specs.meaning.Tree.{Program}
use Rattle.task_ast.specs.meaning.State.{Location, State}
use Rattle.task_ast.specs.Fold.{Member, applied, fold}
use Rattle.task_ast.specs.Members.{member_of}
use Rattle.task_ast.specs.meaning.Plain.{Subthread}
use Rattle.task_ast.specs.Plain.{tree_machine, order, opening, last_state}
use Rattle.task_ast.specs.Position.{before}
use Rattle.task_ast.proofs.Positions.{last_is}
use Rattle.dependence.specs.meaning.Conflict.{foot_at, clash_in}
use Rattle.dependence.specs.Conflict.{ClashIn}
use Rattle.dependence.specs.meaning.Dependents.{is_member}
use Rattle.dependence.specs.meaning.Restarts.{Dependence, struck_next}
use Rattle.dependence.specs.Restarts.{mask_of, mask_now}
use Rattle.dependence.specs.meaning.Journal.{Stage, initial_stage, MayRetire, Allowed, LawfulFrom, Lawful, Complete, happens, restarted, stage, stage_from}
use Rattle.dependence.specs.meaning.Runs.{feet_of, dependence_of}
use Rattle.dependence.specs.Standing.{present, AreShort, StageStands}
use Rattle.dependence.specs.Histories.{HasCells}
use Rattle.dependence.specs.Touching.{Agree, MayWrite, MayTouch, done_by, own_location}
use Rattle.dependence.specs.Removal.{history_in}
use Rattle.dependence.specs.Buffer.{Buffer}
use Rattle.dependence.specs.RunBuffer.{members_at, RunStands, IsOut}
use Rattle.dependence.proofs.Struck.{struck-live}
use Rattle.dependence.proofs.Folds.{Kept, fold_later}
use Rattle.dependence.proofs.Keeping.{run-keeps, kept-feet}
use Rattle.dependence.proofs.RunBuffers.{event-stands, out-finds, retired-lines, drained-state}
use Rattle.rollback.specs.meaning.Cuts.{cut_at, back, rolling_of}
use Rattle.rollback.specs.Cuts.{SettlesCut}
use Rattle.rollback.specs.Standing.{BlocksStand}
use Rattle.rollback.specs.States.{Held, initial_held, state_before, HeldStands, IsCopy, held_restarted, held_happens, held_from, held_after, StaysBehind}
use Rattle.rollback.proofs.Backs.{cut-low, redone, unredone, attempt-raised, attempt-kept}
use Rattle.rollback.proofs.Standing.{initial-blocks, happens-blocks, blocks-from}

-- ---- folds

-- folds of the same members are the same
same-fold : (members others : ℕ → Member) (start : State) (set other : ℕ → Bool) (n : ℕ) → ((q : ℕ) → q < n → members q ≡ others q)
    → ((q : ℕ) → q < n → set q ≡ other q) → fold members start set n ≡ fold others start other n
same-fold members others start set other zero same_members same_set = refl
same-fold members others start set other (suc n) same_members same_set =
    let below = same-fold members others start set other n (λ q l. same_members q (omega arith)) (λ q l. same_set q (omega arith)) in
    λ i. cond (same_set n (omega arith) i) (applied (same_members n (omega arith) i) (below i)) (below i)

-- past the last member nothing comes
ended-fold : (members : ℕ → Member) (start : State) (set : ℕ → Bool) (low n : ℕ) → low ≤ n → ((q : ℕ) → low ≤ q → set q ≡ false)
    → fold members start set n ≡ fold members start set low
ended-fold members start set low zero l none = let e : 0 ≡ low = omega arith in ap (fold members start set) e
ended-fold members start set low (suc n) l none =
    elim (cases_lt n low) [
      | inl last ↦ (let e : suc n ≡ low = omega arith in ap (fold members start set) e)
      | inr more ↦ rw (none n more) (ended-fold members start set low n more none)
    ]

-- ---- a run that restarts and one that rolls back are told alike what stands, and what may retire

module _ (run : List Subthread) (cuts : ℕ → Bool) (faults : List Fault) where
  unrolled-stands : (at : Stage) → StageStands (rolling_of cuts run) faults at → StageStands (dependence_of run) faults at
  unrolled-stands at stands =
      record {
        front_low = stands.front_low;
        retired_low = stands.retired_low;
        posted_low = stands.posted_low;
        taken_posted = stands.taken_posted;
        applied_posted = stands.applied_posted;
        applied_taken = stands.applied_taken;
        taken_applied = stands.taken_applied;
        ready = λ p q posted l e. stands.ready p q posted l (or_left (clash_in (feet_of run) q p) (nat_lt q (cut_at cuts p)) e);
        retired_applied = stands.retired_applied;
        retired_clean = stands.retired_clean;
      }

  unrolled-retire : (at : Stage) (p : ℕ) → MayRetire (rolling_of cuts run) faults at p → MayRetire (dependence_of run) faults at p
  unrolled-retire at p may =
      record {
        oldest = may.oldest;
        issued = may.issued;
        applied = may.applied;
        none_due = may.none_due;
        safe =
            elim may.safe [
              | inl rest ↦ inl (λ q low counted same. rest q low counted (ap (cut_at cuts) same))
              | inr drained ↦ inr drained
            ];
      }

module _ (run : List Subthread) (faults : List Fault) (start : State) where
  abbrev members : Stage → ℕ → Member
  members at = members_at run faults at

  -- ---- as a history buffer

  -- with the histories that it could have kept
  abbrev as_buffer : Stage → Held → Buffer
  as_buffer at held =
      record {
        state = held.state;
        histories = λ p. cond (at.applied p) (Some (history_in (members at) start at.applied p)) None;
        lines = held.lines;
      }

  buffer-stands : (at : Stage) (held : Held) → HeldStands run faults start at held → RunStands run faults start at (as_buffer at held)
  buffer-stands at held stands =
      record {
        state_is = stands.state_is;
        histories_are = λ p l e. rw e refl;
        lines_are = stands.lines_are;
        others_have_none = λ p l e. rw e refl;
        closed = stands.closed;
        below = stands.below;
      }

  held-stands : (at : Stage) (buffer : Buffer) → RunStands run faults start at buffer
      → HeldStands run faults start at (record { state = buffer.state; lines = buffer.lines })
  held-stands at buffer stands =
      record { state_is = stands.state_is; lines_are = stands.lines_are; closed = stands.closed; below = stands.below }

  pub initial-held : HeldStands run faults start initial_stage (initial_held start)
  initial-held =
      record {
        state_is = refl;
        lines_are = λ p l e. absurd (false≢true e);
        closed = λ p q l e. absurd (false≢true e);
        below = λ p e. absurd (false≢true e);
      }

  module _ (cuts : ℕ → Bool) where
    abbrev rolled : Dependence
    rolled = rolling_of cuts run

    -- ---- what a rollback leaves

    module _ (at : Stage) (struck : ℕ) (next : struck_next rolled faults at.progress ≡ Some struck) where
      abbrev cut : ℕ
      cut = cut_at cuts struck

      abbrev after_it : Stage
      after_it = restarted rolled at (Some struck)

      cut-issued : cut ≤ at.progress.front
      cut-issued =
          let issued = (struck-live rolled faults at.progress struck next).0 in
          let low = cut-low cuts struck in
          omega arith

      same-member : (q : ℕ) → q < cut → members at q ≡ members after_it q
      same-member q l =
          ap (λ attempt. member_of (mask_of faults q attempt) (slice_get run q)) (sym (attempt-kept cuts (dependence_of run) at struck q l))

      same-applied : (q : ℕ) → q < cut → at.applied q ≡ after_it.applied q
      same-applied q l = rw (unredone cuts struck at.progress.front q l) refl

      same-before : (n : ℕ) → n ≤ cut → state_before run faults start at n ≡ state_before run faults start after_it n
      same-before n low =
          same-fold (members at) (members after_it) start at.applied after_it.applied n (λ q l. same-member q (omega arith))
          (λ q l. same-applied q (omega arith))

      module _ (held : Held) (stands : HeldStands run faults start at held) where
        none-later : (q : ℕ) → cut ≤ q → after_it.applied q ≡ false
        none-later q low =
            elim (cases_lt q at.progress.front) [
              | inl l ↦ rw (redone cuts struck at.progress.front q low l) refl
              | inr l ↦ unissued (is_member q (back cuts struck at.progress.front)) l
            ]
          where
            unissued : (b : Bool) → at.progress.front ≤ q → cond b false (at.applied q) ≡ false
            unissued true l = refl
            unissued false l = false_from_ne_true (at.applied q) (λ e. let below = stands.below q e in omega arith)

        -- what is applied still lies before the cut
        kept-low : (q : ℕ) → after_it.applied q ≡ true → q < cut
        kept-low q e =
            elim (cases_lt q cut) [
              | inl l ↦ l
              | inr l ↦ absurd (both_ways (after_it.applied q) (none-later q l) e)
            ]

        was-applied : (q : ℕ) → after_it.applied q ≡ true → at.applied q ≡ true
        was-applied q e = same-applied q (kept-low q e) ∙ e

        restart-held : HeldStands run faults start after_it (held_restarted run faults start cuts at (Some struck) held)
        restart-held =
            record {
              state_is =
                  same-before cut (omega arith)
                  ∙ sym (ended-fold (members after_it) start after_it.applied cut at.progress.front cut-issued none-later);
              lines_are = λ p low e.
                  stands.lines_are p low (was-applied p e)
                  ∙ (let l = kept-low p e in λ i. (done_by (same-member p l i) (same-before p (omega arith) i)).prints);
              closed = λ p q l e c.
                  (let here = kept-low q e in sym (same-applied p (omega arith)) ∙ stands.closed p q l (was-applied q e) c);
              below = λ p e. (let l = kept-low p e in let issued = cut-issued in omega arith);
            }

        -- an attempt that stays out finds the same after the rollback
        restart-finds : (q attempt : ℕ) → BlocksStand cuts (dependence_of run) faults at → IsOut at q attempt → attempt ≡ present after_it q
            → Agree (MayTouch own_location (foot_at (feet_of run) q))
            (held_restarted run faults start cuts at (Some struck) held).state held.state
        restart-finds q attempt blocks out still place t =
            found cut before cut-issued place t
            ∙ (sym (found at.progress.front issued (omega arith) place t) ∙ ap (λ state. state place) (sym stands.state_is))
          where
            posted : Contains at.posted (q, present at q)
            posted = subst (λ a. Contains at.posted (q, a)) out.present out.posted

            issued : q < at.progress.front
            issued = (blocks.stands.posted_low q (present at q) posted).0

            absent : at.applied q ≡ false
            absent =
                false_from_ne_true (at.applied q)
                (λ e. out.untaken (subst (λ a. Contains at.taken (q, a)) (sym out.present) (blocks.stands.applied_taken q e posted)))

            -- it is not rolled back, since its attempt is still the present one
            before : q < cut
            before =
                elim (cases_lt q cut) [
                  | inl l ↦ l
                  | inr l ↦
                      absurd
                      (let raised = attempt-raised cuts (dependence_of run) at struck q l issued in
                      let same = out.present in
                      omega arith)
                ]

            Writes : ℕ → Location → Type 0
            Writes p = MayWrite own_location (foot_at (feet_of run) p)

            Touches : ℕ → Location → Type 0
            Touches p = MayTouch own_location (foot_at (feet_of run) p)

            kept : Kept Writes Touches (ClashIn (feet_of run)) (members at)
            kept = kept-feet own_location (foot_at (feet_of run)) (members at) (run-keeps run (mask_now faults at.progress.made))

            found : (n : ℕ) → q < n → n ≤ at.progress.front
                → Agree (Touches q) (state_before run faults start at n) (state_before run faults start at q)
            found n l low =
                fold_later Writes Touches (ClashIn (feet_of run)) (members at) kept start at.applied q n (omega arith)
                (λ r from m e c. both_ways (at.applied q) absent (stands.closed q r (later r from e) e c))
              where
                later : (r : ℕ) → q ≤ r → at.applied r ≡ true → q < r
                later r from e =
                    elim (cases_lt q r) [
                      | inl less ↦ less
                      | inr most ↦ absurd (both_ways (at.applied q) absent (let same : q ≡ r = omega arith in ap at.applied same ∙ e))
                    ]

    -- ---- each event that is allowed

    pub happens-held : HasCells start → (at : Stage) (e : Event) (held : Held) → BlocksStand cuts (dependence_of run) faults at
        → HeldStands run faults start at held → Allowed (rolling_of cuts run) faults at e
        → HeldStands run faults start (happens rolled faults at e) (held_happens run faults start cuts at e held)
    happens-held cells at (event.Issue p) held blocks stands may =
        record {
          state_is =
              stands.state_is
              ∙ sym (ended-fold (members at) start at.applied at.progress.front (at.progress.front + 1) (omega arith)
              (λ q l. false_from_ne_true (at.applied q) (λ e. let below = stands.below q e in omega arith)));
          lines_are = stands.lines_are;
          closed = stands.closed;
          below = λ q e. (let below = stands.below q e in omega arith);
        }
    happens-held cells at (event.Post p attempt) held blocks stands may =
        record { state_is = stands.state_is; lines_are = stands.lines_are; closed = stands.closed; below = stands.below }
    happens-held cells at (event.Take p attempt true) held blocks stands may =
        held-stands (happens rolled faults at (event.Take p attempt true)) _
        (event-stands run faults start cells at (as_buffer at held) (unrolled-stands run cuts faults at blocks.stands)
        (buffer-stands at held stands) (event.Take p attempt true) may)
    happens-held cells at (event.Take p attempt false) held blocks stands may =
        record { state_is = stands.state_is; lines_are = stands.lines_are; closed = stands.closed; below = stands.below }
    happens-held cells at (event.Restart number) held blocks stands may = go (struck_next rolled faults at.progress) refl
      where
        go : (o : Option ℕ) → struck_next rolled faults at.progress ≡ o
            → HeldStands run faults start (restarted rolled at o) (held_restarted run faults start cuts at o held)
        go None e = stands
        go (Some struck) e = restart-held at struck e held stands
    happens-held cells at (event.Retire p) held blocks stands may =
        record {
          state_is = stands.state_is;
          lines_are = λ q l. stands.lines_are q (let same = may.oldest in omega arith);
          closed = stands.closed;
          below = stands.below;
        }

    pub held-finds : HasCells start → (at : Stage) (e : Event) (held : Held) (q attempt : ℕ)
        → BlocksStand cuts (dependence_of run) faults at
        → HeldStands run faults start at held → Allowed (rolling_of cuts run) faults at e → IsOut at q attempt
        → IsOut (happens rolled faults at e) q attempt
        → Agree (MayTouch own_location (foot_at (feet_of run) q)) (held_happens run faults start cuts at e held).state held.state
    held-finds cells at (event.Issue p) held q attempt blocks stands may out still place t = refl
    held-finds cells at (event.Post p other) held q attempt blocks stands may out still place t = refl
    held-finds cells at (event.Take p other true) held q attempt blocks stands may out still place t =
        out-finds run faults start cells at (as_buffer at held) (unrolled-stands run cuts faults at blocks.stands)
        (buffer-stands at held stands)
        (event.Take p other true) q attempt may out still place t
    held-finds cells at (event.Take p other false) held q attempt blocks stands may out still place t = refl
    held-finds cells at (event.Restart number) held q attempt blocks stands may out still place t =
        go (struck_next rolled faults at.progress) refl still.present place t
      where
        go : (o : Option ℕ) → struck_next rolled faults at.progress ≡ o → attempt ≡ present (restarted rolled at o) q
            → Agree (MayTouch own_location (foot_at (feet_of run) q)) (held_restarted run faults start cuts at o held).state held.state
        go None e same other u = refl
        go (Some struck) e same other u = restart-finds at struck e held stands q attempt blocks out same other u
    held-finds cells at (event.Retire p) held q attempt blocks stands may out still place t = refl

    module _ (cells : HasCells start) (settled : SettlesCut cuts (dependence_of run)) (short : AreShort faults) where
      from : (at : Stage) (events : List Event) (held : Held) → BlocksStand cuts (dependence_of run) faults at
          → HeldStands run faults start at held → LawfulFrom (rolling_of cuts run) faults at events
          → HeldStands run faults start (stage_from rolled faults at events) (held_from run faults start cuts at events held)
      from at [] held blocks stands lawful = stands
      from at (e ∷ rest) held blocks stands lawful =
          from (happens rolled faults at e) rest (held_happens run faults start cuts at e held)
          (happens-blocks cuts (dependence_of run) faults settled short at e blocks lawful.0)
          (happens-held cells at e held blocks stands lawful.0) lawful.1

      pub journal-held : (events : List Event) → Lawful (rolling_of cuts run) faults events
          → HeldStands run faults start (stage rolled faults events) (held_after run faults start cuts events)
      journal-held events lawful =
          from initial_stage events (initial_held start) (initial-blocks cuts (dependence_of run) faults) initial-held lawful

    -- ---- copies

    pub copy-keeps : (at : Stage) (e : Event) (c : ℕ) (copy : State) → BlocksStand cuts (dependence_of run) faults at
        → Allowed (rolling_of cuts run) faults at e → StaysBehind cuts run faults c at e → IsCopy run faults start at c copy
        → IsCopy run faults start (happens rolled faults at e) c copy
    copy-keeps at (event.Issue p) c copy blocks may behind is = record { state_is = is.state_is; whole = is.whole }
    copy-keeps at (event.Post p attempt) c copy blocks may behind is = record { state_is = is.state_is; whole = is.whole }
    copy-keeps at (event.Take p attempt applies) c copy blocks may behind is =
        record {
          state_is =
              is.state_is
              ∙ same-fold (members at) (members at) start at.applied (happens rolled faults at (event.Take p attempt applies)).applied c
              (λ q l. refl) (λ q l. is.whole q l ∙ sym (still q l));
          whole = still;
        }
      where
        still : (q : ℕ) → q < c → ((applies && nat_eq q p) || at.applied q) ≡ true
        still q l = or_right (applies && nat_eq q p) (at.applied q) (is.whole q l)
    copy-keeps at (event.Restart number) c copy blocks may behind is = go (struck_next rolled faults at.progress) refl
      where
        go : (o : Option ℕ) → struck_next rolled faults at.progress ≡ o → IsCopy run faults start (restarted rolled at o) c copy
        go None e = is
        go (Some struck) e =
            let low = behind struck e in
            record {
              state_is = is.state_is ∙ same-before at struck e c low;
              whole = λ q l. sym (same-applied at struck e q (omega arith)) ∙ is.whole q l;
            }
    copy-keeps at (event.Retire p) c copy blocks may behind is = record { state_is = is.state_is; whole = is.whole }

    pub back-copy : (at : Stage) (held : Held) (struck : ℕ) (copy : State) → IsCopy run faults start at (cut_at cuts struck) copy
        → (held_restarted run faults start cuts at (Some struck) held).state ≡ copy
    back-copy at held struck copy is = sym is.state_is

    pub back-same : (at : Stage) (held : Held) (struck : ℕ) → HeldStands run faults start at held → cut_at cuts struck ≤ at.progress.front
        → ((q : ℕ) → cut_at cuts struck ≤ q → at.applied q ≡ false)
        → (held_restarted run faults start cuts at (Some struck) held).state ≡ held.state
    back-same at held struck stands low none =
        sym (stands.state_is ∙ ended-fold (members at) start at.applied (cut_at cuts struck) at.progress.front low none)

  pub copy-is : (at : Stage) (held : Held) (c : ℕ) → HeldStands run faults start at held → ((q : ℕ) → q < c → at.applied q ≡ true)
      → ((q : ℕ) → c ≤ q → at.applied q ≡ false) → IsCopy run faults start at c held.state
  copy-is at held c stands whole none =
      record {
        state_is = stands.state_is ∙ ended-fold (members at) start at.applied c at.progress.front issued none;
        whole = whole;
      }
    where
      issued : c ≤ at.progress.front
      issued =
          elim (cases_lt at.progress.front c) [
            | inl l ↦ absurd (let below = stands.below at.progress.front (whole at.progress.front l) in omega arith)
            | inr l ↦ l
          ]

-- ---- what the plain run leaves

module _ (program : Program) (inputs : Inputs) (limits : Limits) (faults : List Fault) (cuts : ℕ → Bool) where
  abbrev plain : List Subthread
  plain = order program inputs limits

  abbrev opens : State
  opens = (opening program inputs limits).state

  pub drained-held : (at : Stage) (held : Held) → BlocksStand cuts (dependence_of plain) faults at → HeldStands plain faults opens at held
      → at.retired ≡ at.progress.front → held.state ≡ (before program inputs limits at.progress.front).state
  drained-held at held blocks stands all =
      drained-state program inputs limits faults at (as_buffer plain faults opens at held)
      (unrolled-stands plain cuts faults at blocks.stands)
      (buffer-stands plain faults opens at held stands) all

  module _ (short : AreShort faults) where
    pub retired-held : (at : Stage) (held : Held) (p : ℕ) (s : Subthread) → BlocksStand cuts (dependence_of plain) faults at
        → HeldStands plain faults opens at held → MayRetire (rolling_of cuts plain) faults at p → slice_get plain p ≡ Some s
        → held.lines p ≡ s.lines
    retired-held at held p s blocks stands may there =
        retired-lines program inputs limits faults short at (as_buffer plain faults opens at held) p s
        (unrolled-stands plain cuts faults at blocks.stands) (buffer-stands plain faults opens at held stands)
        (unrolled-retire plain cuts faults at p may) there

    pub final-held : SettlesCut cuts (dependence_of plain) → (events : List Event)
        → Complete (rolling_of cuts plain) faults events
        → (held_after plain faults opens cuts events).state ≡ (last_state program inputs limits).state
    final-held settled events complete =
        drained-held at (held_after plain faults opens cuts events)
        (blocks-from cuts (dependence_of plain) faults settled short initial_stage events (initial-blocks cuts (dependence_of plain) faults)
        complete.lawful)
        (journal-held plain faults opens cuts (λ c. refl) settled short events complete.lawful)
        (complete.retired ∙ sym complete.final.passed)
        ∙ (ap (λ n. (before program inputs limits n).state) complete.final.passed
        ∙ ap (λ last. last.state) (last_is (tree_machine program inputs limits) program inputs limits).0)
      where
        at : Stage
        at = stage (rolling_of cuts plain) faults events
