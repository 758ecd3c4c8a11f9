-- What the attempts left that are applied, of a run that restarts selectively. An attempt is applied late, or some are undone: each other
-- one that is applied finds in the fold below it, at what it may touch, what it found before, so it leaves the same; and the one that is
-- applied late leaves in its place what it did to the fold of all. What has retired is a member without damage, and below it all is
-- applied: so what retires left what its subthread leaves in the plain run.
use Rattle.std.proofs.Common.{◌≡◌, inl, inr, ℕ, zero, suc, ◌+◌, ◌<◌, ◌≤◌, Bool, true, false, cond, ◌&&◌, ◌||◌, List, [], ◌∷◌, ◌++◌, take, length, Contains, Option, Some, None, refl, sym, ap, subst, ◌∙◌, arith, slice_get}
use Rattle.std.specs.Prelude.{pos, ⊤}
use Rattle.std.proofs.lemmas.Bool.{false≢true, both_ways, cases_lt, ne_eqb, eqb-true, and_parts, and_from, false_from_ne_true}
use Rattle.gp_base.specs.declared.limits.Limits.{Limits}
use Rattle.gp_base.specs.declared.feed.Inputs.{Inputs}
use Rattle.gp_base.specs.declared.fault.Fault.{Fault}
use Rattle.gp_base.specs.declared.journal.Event.{Event}
use Rattle.gp_base.specs.declared.journal.Event.TheVariants as event
use Rattle.task_ast.specs.declared.effect.Effect.{Effect}
use Rattle.task_ast.specs.meaning.Tree.{Program}
use Rattle.task_ast.specs.meaning.State.{Location, State}
use Rattle.task_ast.specs.meaning.Effect.{effect}
use Rattle.task_ast.specs.meaning.Plain.{Subthread}
use Rattle.task_ast.specs.Plain.{Plain, tree_machine, order, opening}
use Rattle.task_ast.specs.Fold.{Member, fold}
use Rattle.task_ast.specs.Members.{member_of, member_in}
use Rattle.task_ast.proofs.Positions.{fold_below}
use Rattle.task_ast.proofs.Runs.{before-is}
use Rattle.task_ast.proofs.WholeFolds.{undamaged}
use Rattle.dependence.specs.meaning.Conflict.{foot_at}
use Rattle.dependence.specs.Conflict.{ClashIn}
use Rattle.dependence.specs.meaning.Dependents.{is_member}
use Rattle.dependence.specs.meaning.Restarts.{struck_next, restart_of}
use Rattle.dependence.specs.Restarts.{mask_of, mask_now}
use Rattle.dependence.specs.meaning.Journal.{Stage, Allowed, MayRetire, happens, restarted}
use Rattle.dependence.specs.meaning.Runs.{feet_of, dependence_of}
use Rattle.dependence.specs.Standing.{present, AreShort, StageStands}
use Rattle.dependence.specs.Touching.{Agree, MayWrite, MayTouch, done_by, own_location}
use Rattle.dependence.specs.Insertion.{with_position}
use Rattle.dependence.specs.Removal.{without, done_in, ClosedAfter, IsPart}
use Rattle.dependence.specs.Buffer.{Buffer, BufferStands}
use Rattle.dependence.specs.RunBuffer.{members_at, RunStands}
use Rattle.dependence.proofs.Conflicting.{conflicting-is}
use Rattle.dependence.proofs.DependentSets.{is_member-is}
use Rattle.dependence.proofs.RestartEnds.{attempt-push}
use Rattle.dependence.proofs.Standing.{happens-stands, keeps-retired, run-redoes, run-later}
use Rattle.dependence.proofs.Folds.{Kept, outside, insertion, fold_same, rest_agrees}
use Rattle.dependence.proofs.Keeping.{run-keeps, kept-feet}
use Rattle.dependence.proofs.Buffers.{late-finds, fold_members, fold_all}
use Rattle.crew.specs.meaning.Noted.{left_at, left_from}
use Rattle.whole_run.proofs.InOrder.{unmasked}

module _ (Writes Sees : ℕ → Location → Type 0) (Clash : ℕ → ℕ → Type 0) (members : ℕ → Member) (kept : Kept Writes Sees Clash members)
    (opening : State) (set : ℕ → Bool) (low front : ℕ) (buffer : Buffer)
    (stands : BufferStands Clash members opening set low front buffer) where
  -- a position is applied late
  module _ (p : ℕ) (below : p < front) (out : set p ≡ false) where
    abbrev more : ℕ → Bool
    more = with_position set p

    unchanged : (n : ℕ) → n ≤ p → (q : ℕ) → q < n → set q ≡ more q
    unchanged n l q k = rw (ne_eqb q p (λ e. omega arith)) refl

    -- it leaves in its place what it did to the fold of all
    pub here-left : done_in members opening more p ≡ done_by (members p) (fold members opening set front)
    here-left =
        sym ((kept.keeps p).same (fold members opening set front) (fold members opening more p)
        (λ place t. late-finds Writes Sees Clash members kept opening set low front buffer stands p below out place t
        ∙ ap (λ (s : State). s place) (fold_same Writes Sees Clash members kept opening set more p (unchanged p (omega arith)))))

    others-agree : (q : ℕ) → (q ≡ p → ⊥) → set q ≡ true → Agree (Sees q) (fold members opening set q) (fold members opening more q)
    others-agree q ne e place t =
        elim (cases_lt q p) [
          | inl l ↦ ap (λ (s : State). s place) (fold_same Writes Sees Clash members kept opening set more q (unchanged q (omega arith)))
          | inr l ↦
              (let later : p < q = omega arith in
              sym (outside Writes Sees Clash members kept p (fold members opening set q) place
              (λ w. both_ways (set p) out (stands.closed p q later e (kept.writes_first p q place w t))))
              ∙ ap (λ (s : State). s place) (insertion Writes Sees Clash members kept opening set p q stands.closed out later))
        ]

    -- each other one leaves the same
    pub others-left : (q : ℕ) → (q ≡ p → ⊥) → set q ≡ true → done_in members opening more q ≡ done_in members opening set q
    others-left q ne e =
        sym ((kept.keeps q).same (fold members opening set q) (fold members opening more q) (others-agree q ne e))

  -- a part that is closed under later conflict is undone
  module _ (part : ℕ → Bool) (closed_part : (q r : ℕ) → q < r → r < front → part q ≡ true → Clash q r → part r ≡ true) where
    abbrev both : ℕ → Bool
    both q = part q && set q

    inside : IsPart both set
    inside q e = (and_parts (part q) (set q) e).1

    closed-both : ClosedAfter Clash set both
    closed-both q r l e f clash =
        and_from (part r) (set r) (closed_part q r l (stands.below r f) (and_parts (part q) (set q) e).0 clash) f

    alike : (n : ℕ) → fold members opening (without set both) n ≡ fold members opening (without set part) n
    alike n =
        fold_same Writes Sees Clash members kept opening (without set both) (without set part) n (λ q l. go (part q) (set q))
      where
        go : (b c : Bool) → cond (b && c) false c ≡ cond b false c
        go true true = refl
        go true false = refl
        go false c = refl

    -- what is still applied leaves the same
    pub rest-left : (q : ℕ) → part q ≡ false → set q ≡ true → done_in members opening (without set part) q ≡ done_in members opening set q
    rest-left q f e =
        sym ((kept.keeps q).same (fold members opening set q) (fold members opening (without set part) q)
        (λ place t. rest_agrees Writes Sees Clash members kept opening set both q closed-both inside e (rw f refl) place t
        ∙ ap (λ (s : State). s place) (alike q)))

-- events that apply nothing, and after which nothing has retired that had not
abbrev pub AppliesNothing : Event → Type 0
AppliesNothing (event.Issue p) = ⊤
AppliesNothing (event.Post p attempt) = ⊤
AppliesNothing (event.Take p attempt applies) = applies ≡ false
AppliesNothing (event.Restart number) = ⊤
AppliesNothing (event.Retire p) = ⊥

module _ (run : List Subthread) (faults : List Fault) (start : State) where
  -- what the attempt of a position left that is applied
  abbrev pub left_then : Stage → ℕ → Effect
  left_then at p = done_in (members_at run faults at) start at.applied p

  -- what has retired is the same, and what is applied later was so before, and left the same
  pub record KeepsAt (at later : Stage) : Type 0 where
    pub retired : later.retired ≡ at.retired
    pub applied : (p : ℕ) → later.applied p ≡ true → (at.applied p ≡ true) × (left_then later p ≡ left_then at p)

  module _ (at : Stage) (buffer : Buffer) (stands : StageStands (dependence_of run) faults at)
      (holds : RunStands run faults start at buffer) where
    abbrev Writes : ℕ → Location → Type 0
    Writes p = MayWrite own_location (foot_at (feet_of run) p)

    abbrev Touches : ℕ → Location → Type 0
    Touches p = MayTouch own_location (foot_at (feet_of run) p)

    kept : Kept Writes Touches (ClashIn (feet_of run)) (members_at run faults at)
    kept = kept-feet own_location (foot_at (feet_of run)) (members_at run faults at) (run-keeps run (mask_now faults at.progress.made))

    -- ---- a restart

    module _ (p : ℕ) where
      abbrev part : ℕ → Bool
      part q = is_member q ((dependence_of run).redo p at.progress.front)

      abbrev after_it : Stage
      after_it = restarted (dependence_of run) at (Some p)

      closed-part : (q r : ℕ) → q < r → r < at.progress.front → part q ≡ true → ClashIn (feet_of run) q r → part r ≡ true
      closed-part q r l m e c =
          (is_member-is r ((dependence_of run).redo p at.progress.front)).1
          ((run-redoes run).closed p at.progress.front q r ((is_member-is q ((dependence_of run).redo p at.progress.front)).0 e) l m
          ((conflicting-is (foot_at (feet_of run) q) (foot_at (feet_of run) r)).1 c))

      -- the attempts of the others are as before
      same-present : (q : ℕ) → part q ≡ false → present after_it q ≡ present at q
      same-present q e =
          let h = rw e at (attempt-push at.progress.made (restart_of (dependence_of run) at.progress p) q) in omega arith

      same-member : (q : ℕ) → part q ≡ false → members_at run faults at q ≡ members_at run faults after_it q
      same-member q e = ap (λ attempt. member_of (mask_of faults q attempt) (slice_get run q)) (sym (same-present q e))

      -- what is still applied is not redone, and was applied
      still : (q : ℕ) → without at.applied part q ≡ true → (part q ≡ false) × (at.applied q ≡ true)
      still q e = go (part q) refl e
        where
          go : (b : Bool) → part q ≡ b → cond b false (at.applied q) ≡ true → (part q ≡ false) × (at.applied q ≡ true)
          go true f g = absurd (false≢true g)
          go false f g = (f, g)

      same-fold : (q : ℕ) → fold (members_at run faults at) start (without at.applied part) q
          ≡ fold (members_at run faults after_it) start (without at.applied part) q
      same-fold q =
          fold_members (members_at run faults at) (members_at run faults after_it) start (without at.applied part) q
          (λ r l e. same-member r (still r e).0)

      restart-keeps : KeepsAt at after_it
      restart-keeps =
          record {
            retired = refl;
            applied = λ q e. (
              (still q e).1,
              (λ i. done_by (sym (same-member q (still q e).0) i) (sym (same-fold q) i))
                  ∙ rest-left Writes Touches (ClashIn (feet_of run))
                  (members_at run faults at) kept start at.applied at.retired at.progress.front
                  buffer holds part closed-part q (still q e).0 (still q e).1,
            );
          }

    pub event-keeps : (e : Event) → AppliesNothing e → KeepsAt at (happens (dependence_of run) faults at e)
    event-keeps (event.Issue p) nothing = record { retired = refl; applied = λ q e. (e, refl) }
    event-keeps (event.Post p attempt) nothing = record { retired = refl; applied = λ q e. (e, refl) }
    event-keeps (event.Take p attempt true) nothing = absurd (false≢true (sym nothing))
    event-keeps (event.Take p attempt false) nothing = record { retired = refl; applied = λ q e. (e, refl) }
    event-keeps (event.Restart number) nothing = go (struck_next (dependence_of run) faults at.progress)
      where
        go : (o : Option ℕ) → KeepsAt at (restarted (dependence_of run) at o)
        go None = record { retired = refl; applied = λ q e. (e, refl) }
        go (Some p) = restart-keeps p
    event-keeps (event.Retire p) nothing = absurd nothing

    -- ---- a result that applies

    module _ (p attempt : ℕ) (allowed : Allowed (dependence_of run) faults at (event.Take p attempt true)) where
      abbrev taken_at : Stage
      taken_at = happens (dependence_of run) faults at (event.Take p attempt true)

      pub is-present : attempt ≡ present at p
      is-present = eqb-true attempt (present at p) (sym allowed.decided)

      posted : Contains at.posted (p, present at p)
      posted = subst (λ a. Contains at.posted (p, a)) is-present allowed.posted

      absent : at.applied p ≡ false
      absent =
          false_from_ne_true (at.applied p)
          (λ e. allowed.untaken (subst (λ a. Contains at.taken (p, a)) (sym is-present) (stands.applied_taken p e posted)))

      pub taken-here : left_then taken_at p
          ≡ done_by (members_at run faults at p) (fold (members_at run faults at) start at.applied at.progress.front)
      taken-here =
          here-left Writes Touches (ClashIn (feet_of run))
          (members_at run faults at) kept start at.applied at.retired at.progress.front buffer
          holds p (stands.posted_low p (present at p) posted).0 absent

      pub taken-others : (q : ℕ) → (q ≡ p → ⊥) → taken_at.applied q ≡ true
          → (at.applied q ≡ true) × (left_then taken_at q ≡ left_then at q)
      taken-others q ne e = (
        was,
        others-left Writes Touches (ClashIn (feet_of run))
            (members_at run faults at) kept start at.applied at.retired at.progress.front buffer
            holds p (stands.posted_low p (present at p) posted).0 absent q ne was,
      )
        where
          was : at.applied q ≡ true
          was = ap (λ b. b || at.applied q) (sym (ne_eqb q p ne)) ∙ e

-- ---- a position that retires

module _ (run : List Subthread) (faults : List Fault) where
  -- what has retired is a member without damage
  clean : (at : Stage) → StageStands (dependence_of run) faults at → (q : ℕ) → q < at.retired
      → members_at run faults at q ≡ member_in run (λ p. pos 0) q
  clean at stands q l = ap (λ mask. member_of mask (slice_get run q)) (unmasked faults q (present at q) (stands.retired_clean q l))

  -- the fold of what has retired is that of all, none of them damaged
  retired-fold : (at : Stage) → StageStands (dependence_of run) faults at → (start : State) (p : ℕ) → p ≤ at.retired
      → fold (members_at run faults at) start at.applied p ≡ fold (member_in run (λ q. pos 0)) start (λ q. true) p
  retired-fold at stands start p l =
      fold_members (members_at run faults at) (member_in run (λ q. pos 0)) start at.applied p (λ q m e. clean at stands q (omega arith))
      ∙ fold_all (member_in run (λ q. pos 0)) start at.applied p (λ q m. stands.retired_applied q (omega arith))

module _ (program : Program) (inputs : Inputs) (limits : Limits) where
  abbrev order_of : List Subthread
  order_of = order program inputs limits

  abbrev start_of : State
  start_of = (opening program inputs limits).state

  -- it left what its subthread leaves in the plain run
  pub retired-plain : (faults : List Fault) → AreShort faults → (at : Stage) (p : ℕ) (s : Subthread)
      → StageStands (dependence_of order_of) faults at → MayRetire (dependence_of order_of) faults at p → slice_get order_of p ≡ Some s
      → left_then order_of faults start_of at p ≡ left_at program inputs limits p s
  retired-plain faults short at p s stands may there =
      let oldest = may.oldest in
      let issued = may.issued in
      let low = stands.front_low in
      let after =
      happens-stands (dependence_of order_of) (run-redoes order_of) faults short at (event.Retire p)
      (keeps-retired (dependence_of order_of) faults at (run-later order_of) stands) stands may in
      let whole : members_at order_of faults at p ≡ member_in order_of (λ q. pos 0) p =
      clean order_of faults (happens (dependence_of order_of) faults at (event.Retire p)) after p (omega arith) in
      ap (λ m. done_by m (fold (members_at order_of faults at) start_of at.applied p)) whole
      ∙ (ap (done_by (member_in order_of (λ q. pos 0) p)) (retired-fold order_of faults at stands start_of p (omega arith))
      ∙ (ap (λ o. done_by (member_of (pos 0) o) (fold (member_in order_of (λ q. pos 0)) start_of (λ q. true) p)) there
      ∙ (undamaged (effect s.thread s.begins.sync s.child s.actions (fold (member_in order_of (λ q. pos 0)) start_of (λ q. true) p))
      ∙ (ap (effect s.thread s.begins.sync s.child s.actions)
      (fold_below (tree_machine program inputs limits) program inputs limits p (omega arith))
      ∙ ap (λ (x : Plain). effect s.thread s.begins.sync s.child s.actions x.state) (sym (before-is program inputs limits p))))))

  -- with one position more, what it leaves comes last
  pub left-more : (k : ℕ) (run : List Subthread) (p n : ℕ) (s : Subthread) → slice_get run p ≡ Some s → n ≡ k + p
      → take (suc p) (left_from program inputs limits k run)
      ≡ take p (left_from program inputs limits k run) ++ left_at program inputs limits n s ∷ []
  left-more k [] zero n s there sum = absurd (cc there)
  left-more k [] (suc p) n s there sum = absurd (cc there)
  left-more k (x ∷ run) zero n s there sum =
      let at : k ≡ n = omega arith in
      let same : x ≡ s = cc there in
      λ i. left_at program inputs limits (at i) (same i) ∷ []
  left-more k (x ∷ run) (suc p) n s there sum =
      ap (λ (rest : List Effect). left_at program inputs limits k x ∷ rest) (left-more (suc k) run p n s there (omega arith))

  pub length-left : (k : ℕ) (run : List Subthread) (n : ℕ) → n ≤ length run → length (take n (left_from program inputs limits k run)) ≡ n
  length-left k run zero l = refl
  length-left k [] (suc n) l = absurd (omega arith)
  length-left k (x ∷ run) (suc n) l =
      let rest : length (take n (left_from program inputs limits (suc k) run)) ≡ n = length-left (suc k) run n (omega arith) in omega arith
