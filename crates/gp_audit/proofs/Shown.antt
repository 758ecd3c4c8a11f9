-- What is kept tells what may come next. Each test on what is kept is shown to answer what the rules ask of the stage:
-- which faults are due or live, what is struck, whether the front drains, whether a thread may go on. From these come
-- the tests of the five kinds of lines, and then that of any line.
use Rattle.std.proofs.Common.{◌≡◌, ◌⊎◌, ◌↔◌, inl, inr, ℕ, zero, suc, ◌+◌, ◌<◌, ◌≤◌, Bool, true, false, not, cond, nat_eq, nat_lt, nat_le, ◌||◌, length, Contains, Option, Some, None, refl, sym, ap, ◌∙◌, subst, arith}
use Rattle.std.specs.Prelude.{is_none, slice_get}
use Rattle.std.specs.Bool.{Decides}
use Rattle.std.specs.Cmp.{booleans_Decides}
use Rattle.std.specs.List.{list_any}
use Rattle.std.proofs.lemmas.Option.{slice_get-get_or}
use Rattle.std.proofs.lemmas.Bool.{false≢true, false_from_ne_true, eqb-true, eq-eqb, ltb-true, lt-ltb, leb-true, le-leb, and_parts, and_from}
use Rattle.std.proofs.lemmas.List.Folds.{Any-from_list_any, list_any-from_Any}
use Rattle.std.proofs.lemmas.Bool.Decides.{Decides-like, Decides-not, Decides-and, Decides-or}
use Rattle.gp_base.specs.declared.limits.TheConstants.{LONGEST_DELAY}
use Rattle.gp_base.specs.declared.journal.Restart.{Restart}
use Rattle.dependence.specs.meaning.Restarts.{Dependence, drains, begun_of, is_live, is_due, least_struck, struck_next, restart_of, NoneDue, IsFinal}
use Rattle.dependence.specs.meaning.Journal.{Stage, IsSafe, RestIsSafe, MayIssue, MayPost, MayTake, MayRetire, MayFollow, Drained}
use Rattle.dependence.specs.JournalTests.{same_attempt}
use Rattle.dependence.specs.Standing.{present, StageStands}
use Rattle.dependence.proofs.Auditing.{contains-decides}
use Rattle.dependence.proofs.Struck.{struck-live}
use Rattle.gp_audit.specs.declared.line.TraceLine.{TraceLine}
use Rattle.gp_audit.specs.declared.line.TraceLine.TheVariants as line
use Rattle.gp_audit.specs.Steps.{before_step, last_step, is_step_of, dependence_by}
use Rattle.gp_audit.specs.inner.Audited.{Audited, seen_at, first_seen, least_of, is_last, drains_now, struck_in, follows, issues, holds_up, is_held_up, posts, takes, is_drained, retires, restart_at, IsRestart, Takes, is_whole, IsSeen, Shows}
use Rattle.gp_audit.specs.inner.Replayed.{Reaches}
use Rattle.gp_audit.proofs.Reaching as reaching
use Rattle.gp_audit.proofs.ToldEvents.{LineAllowed}

none-decides : {A : Type 0} (o : Option A) → Decides (is_none o) (o ≡ None)
none-decides None = (λ _. refl, λ _. refl)
none-decides (Some p) = (λ e. absurd (false≢true e), λ e. absurd (cc e))

true-decides : (b : Bool) → Decides b (b ≡ true)
true-decides b = (λ e. e, λ e. e)

le-decides : (a b : ℕ) → Decides (nat_le a b) (a ≤ b)
le-decides a b = (leb-true a b, le-leb a b)

-- the last step of the thread is an earlier one
last-below : (steps : _) (t p q : ℕ) → last_step steps t p ≡ Some q → q < p
last-below steps t zero q e = absurd (cc e)
last-below steps t (suc p) q e = go (is_step_of t (slice_get steps p)) e (last-below steps t p q)
  where
    go : (b : Bool) → cond b (Some p) (last_step steps t p) ≡ Some q → (last_step steps t p ≡ Some q → q < p) → q < suc p
    go true f earlier = let same : p ≡ q = cc f in omega arith
    go false f earlier = let l = earlier f in omega arith

module _ (at : Stage) (a : Audited) (shows : Shows at a) where
  abbrev dependence : Dependence
  dependence = dependence_by a.steps

  pub seen-is : (p : ℕ) → p < at.progress.front → IsSeen at p (seen_at a.seen p)
  seen-is p l = let front = shows.front in shows.each p (seen_at a.seen p) (slice_get-get_or a.seen p (first_seen p) (omega arith))

  reaches : Reaches at.progress a
  reaches = record { front = shows.front; each = λ p s e. (let is = shows.each p s e in record { attempt = is.attempt; begun = is.begun }) }

  due-is : least_of a false ≡ least_struck (is_due at.progress) a.faults
  due-is = reaching.due-is at.progress a reaches

  live-is : least_of a true ≡ least_struck (is_live at.progress) a.faults
  live-is = reaching.live-is at.progress a reaches

  drains-is : drains_now a ≡ drains dependence at.progress.front
  drains-is = reaching.drains-is at.progress a reaches

  last-is : is_last a ≡ nat_eq at.progress.front dependence.count
  last-is = reaching.last-is at.progress a reaches

  pub struck-is : struck_in a ≡ struck_next dependence a.faults at.progress
  struck-is = reaching.struck-is at.progress a reaches

  none-due : (is_none (least_of a false) ≡ true) ↔ NoneDue a.faults at.progress
  none-due = rw due-is (none-decides (least_struck (is_due at.progress) a.faults))

  drained-is : (is_drained a ≡ true) ↔ Drained dependence a.faults at.progress
  drained-is =
      rw (drains-is, live-is) (Decides-and _ _ (true-decides (drains dependence at.progress.front))
      (none-decides (least_struck (is_live at.progress) a.faults)))

  follows-is : (o : Option ℕ) → ((q : ℕ) → o ≡ Some q → q < at.progress.front) → (follows a o ≡ true) ↔ MayFollow at o
  follows-is None low = (λ _. tt, λ _. refl)
  follows-is (Some q) low = (seen-is q (low q refl)).taken

  -- a settle waits for all before it
  settled-is : (p : ℕ) → ((not (dependence.settles p) || nat_eq a.retired p) ≡ true) ↔ (dependence.settles p ≡ true → at.retired ≡ p)
  settled-is p = go (dependence.settles p)
    where
      go : (b : Bool) → ((not b || nat_eq a.retired p) ≡ true) ↔ (b ≡ true → at.retired ≡ p)
      go true = (λ e _. sym shows.retired ∙ eqb-true a.retired p e, λ h. eq-eqb a.retired p (shows.retired ∙ h refl))
      go false = (λ _ f. absurd (false≢true f), λ _. refl)

  pub issue-is : (p : ℕ) → (issues a p ≡ true) ↔ MayIssue dependence a.faults at p
  issue-is p = (to, from)
    where
      low : p ≡ length a.seen → (q : ℕ) → dependence.before p ≡ Some q → q < at.progress.front
      low e q f = go (slice_get a.steps p) f
        where
          go : (o : Option _) → before_step a.steps p o ≡ Some q → q < at.progress.front
          go None g = absurd (cc g)
          go (Some s) g = let l = last-below a.steps s.thread p q g in let front = shows.front in omega arith

      to : issues a p ≡ true → MayIssue dependence a.faults at p
      to e =
          let one = and_parts (nat_eq p (length a.seen)) _ e in
          let two = and_parts (nat_lt p (length a.steps)) _ one.1 in
          let three = and_parts (is_none (least_of a false)) _ two.1 in
          let four = and_parts (follows a (dependence.before p)) _ three.1 in
          let here = eqb-true p (length a.seen) one.0 in
          record {
            next = here ∙ shows.front;
            left = ltb-true p (length a.steps) two.0;
            none_due = none-due.0 three.0;
            follows = (follows-is (dependence.before p) (low here)).0 four.0;
            settled = (settled-is p).0 four.1;
          }

      from : MayIssue dependence a.faults at p → issues a p ≡ true
      from may =
          let here : p ≡ length a.seen = may.next ∙ sym shows.front in
          and_from (nat_eq p (length a.seen)) _ (eq-eqb p (length a.seen) here)
          (and_from (nat_lt p (length a.steps)) _ (lt-ltb p (length a.steps) may.left)
          (and_from (is_none (least_of a false)) _ (none-due.1 may.none_due)
          (and_from (follows a (dependence.before p)) _ ((follows-is (dependence.before p) (low here)).1 may.follows)
          ((settled-is p).1 may.settled))))

  module _ (stands : StageStands dependence a.faults at) where
    clear-is : (p : ℕ) → p < at.progress.front
        → (not (is_held_up a p) ≡ true) ↔ ((earlier : ℕ) → earlier < p → dependence.clash earlier p ≡ true → at.applied earlier ≡ true)
    clear-is p issued = (to, from)
      where
        to : not (is_held_up a p) ≡ true → (earlier : ℕ) → earlier < p → dependence.clash earlier p ≡ true → at.applied earlier ≡ true
        to e q l clash = go (at.applied q) refl
          where
            go : (b : Bool) → at.applied q ≡ b → b ≡ true
            go true f = refl
            go false f =
                let waits = (shows.waiting q).1 (omega arith, f) in
                let held =
                list_any-from_Any (holds_up a p) a.waiting
                (waits.0, q, waits.1, waits.2, and_from (nat_lt q p) _ (lt-ltb q p l) clash) in
                absurd (false≢true (sym (ap not held) ∙ e))

        from : ((earlier : ℕ) → earlier < p → dependence.clash earlier p ≡ true → at.applied earlier ≡ true) → not (is_held_up a p) ≡ true
        from h = ap not (false_from_ne_true (is_held_up a p) none)
          where
            none : is_held_up a p ≡ true → ⊥
            none e =
                let s = Any-from_list_any (holds_up a p) a.waiting e in
                let both = and_parts (nat_lt s.1 p) _ s.4 in
                let waits = (shows.waiting s.1).0 (s.0, s.2, s.3) in
                false≢true (sym waits.1 ∙ h s.1 (ltb-true s.1 p both.0) both.1)

    pub post-is : (p attempt : ℕ) → (posts a p attempt ≡ true) ↔ MayPost dependence at p attempt
    post-is p attempt = (to, from)
      where
        unposted : p < at.progress.front → attempt ≡ present at p
            → (not (seen_at a.seen p).posted ≡ true) ↔ (¬ Contains at.posted (p, attempt))
        unposted l same =
            let is = (seen-is p l).posted in
            Decides-not _ (Decides-like _ (λ c. subst (λ x. Contains at.posted (p, x)) (sym same) c)
            (λ c. subst (λ x. Contains at.posted (p, x)) same c) is)

        to : posts a p attempt ≡ true → MayPost dependence at p attempt
        to e =
            let one = and_parts (nat_lt p (length a.seen)) _ e in
            let two = and_parts (nat_le a.retired p) _ one.1 in
            let three = and_parts (nat_eq attempt (seen_at a.seen p).attempt) _ two.1 in
            let four = and_parts (not (seen_at a.seen p).posted) _ three.1 in
            let front = shows.front in
            let retired = shows.retired in
            let within = ltb-true p (length a.seen) one.0 in
            let late = leb-true a.retired p two.0 in
            let issued : p < at.progress.front = omega arith in
            let same : attempt ≡ present at p = eqb-true attempt _ three.0 ∙ (seen-is p issued).attempt in
            record {
              issued = issued;
              unretired = omega arith;
              present = same;
              unposted = (unposted issued same).0 four.0;
              ready = (clear-is p issued).0 four.1;
            }

        from : MayPost dependence at p attempt → posts a p attempt ≡ true
        from may =
            let front = shows.front in
            let retired = shows.retired in
            let issued = may.issued in
            let late = may.unretired in
            and_from (nat_lt p (length a.seen)) _ (lt-ltb _ _ (omega arith))
            (and_from (nat_le a.retired p) _ (le-leb _ _ (omega arith))
            (and_from (nat_eq attempt (seen_at a.seen p).attempt) _ (eq-eqb _ _ (may.present ∙ sym (seen-is p issued).attempt))
            (and_from (not (seen_at a.seen p).posted) _ ((unposted issued may.present).1 may.unposted) ((clear-is p issued).1 may.ready))))

    pub take-is : (p attempt : ℕ) (applies : Bool) → (takes a p attempt applies ≡ true) ↔ MayTake at p attempt applies
    take-is p attempt applies = (to, from)
      where
        out : (list_any (same_attempt (p, attempt)) a.out ≡ true) ↔ (Contains at.posted (p, attempt) × ¬ Contains at.taken (p, attempt))
        out = let d = contains-decides (p, attempt) a.out in let s = shows.out p attempt in (λ e. s.0 (d.0 e), λ c. d.1 (s.1 c))

        to : takes a p attempt applies ≡ true → MayTake at p attempt applies
        to e =
            let one = and_parts (list_any (same_attempt (p, attempt)) a.out) _ e in
            let there = out.0 one.0 in
            let is = seen-is p (stands.posted_low p attempt there.0).0 in
            record { posted = there.0; untaken = there.1; decided = (booleans_Decides applies _).0 one.1 ∙ ap (nat_eq attempt) is.attempt }

        from : MayTake at p attempt applies → takes a p attempt applies ≡ true
        from may =
            let is = seen-is p (stands.posted_low p attempt may.posted).0 in
            and_from (list_any (same_attempt (p, attempt)) a.out) _ (out.1 (may.posted, may.untaken))
            ((booleans_Decides applies _).1 (may.decided ∙ ap (nat_eq attempt) (sym is.attempt)))

    safe-is : (p : ℕ) → p < at.progress.front → ((nat_le ((seen_at a.seen p).begun + LONGEST_DELAY) (length a.seen) || is_drained a) ≡ true)
        ↔ ((begun_of at.progress.made p + LONGEST_DELAY ≤ at.progress.front) ⊎ Drained dependence a.faults at.progress)
    safe-is p issued =
        let is = seen-is p issued in
        let same : nat_le ((seen_at a.seen p).begun + LONGEST_DELAY) (length a.seen)
        ≡ nat_le (begun_of at.progress.made p + LONGEST_DELAY) at.progress.front =
        rw (is.begun, shows.front) refl in
        subst (λ b. ((b || is_drained a) ≡ true)
        ↔ ((begun_of at.progress.made p + LONGEST_DELAY ≤ at.progress.front) ⊎ Drained dependence a.faults at.progress)) (sym same)
        (Decides-or _ _ (le-decides (begun_of at.progress.made p + LONGEST_DELAY) at.progress.front) drained-is)

    -- each position is a block of its own
    alone-safe : (p : ℕ) → p < at.progress.front → at.applied p ≡ true
        → ((begun_of at.progress.made p + LONGEST_DELAY ≤ at.progress.front) ⊎ Drained dependence a.faults at.progress)
        ↔ (RestIsSafe dependence at p ⊎ Drained dependence a.faults at.progress)
    alone-safe p issued applied = (to, from)
      where
        to : (begun_of at.progress.made p + LONGEST_DELAY ≤ at.progress.front) ⊎ Drained dependence a.faults at.progress
            → RestIsSafe dependence at p ⊎ Drained dependence a.faults at.progress
        to (inl long) = inl (λ q low counted same. subst (IsSafe at) (sym same) (record { applied = applied; long = long }))
        to (inr drained) = inr drained

        from : RestIsSafe dependence at p ⊎ Drained dependence a.faults at.progress
            → (begun_of at.progress.made p + LONGEST_DELAY ≤ at.progress.front) ⊎ Drained dependence a.faults at.progress
        from (inl rest) = inl (rest p (omega arith) (let front = stands.front_low in omega arith) refl).long
        from (inr drained) = inr drained

    pub retire-is : (p : ℕ) → (retires a p ≡ true) ↔ MayRetire dependence a.faults at p
    retire-is p = (to, from)
      where
        to : retires a p ≡ true → MayRetire dependence a.faults at p
        to e =
            let one = and_parts (nat_eq p a.retired) _ e in
            let two = and_parts (nat_lt p (length a.seen)) _ one.1 in
            let three = and_parts (seen_at a.seen p).applied _ two.1 in
            let four = and_parts (is_none (least_of a false)) _ three.1 in
            let front = shows.front in
            let within = ltb-true p (length a.seen) two.0 in
            let issued : p < at.progress.front = omega arith in
            let is = seen-is p issued in
            record {
              oldest = eqb-true p a.retired one.0 ∙ shows.retired;
              issued = issued;
              applied = sym is.applied ∙ three.0;
              none_due = none-due.0 four.0;
              safe = (alone-safe p issued (sym is.applied ∙ three.0)).0 ((safe-is p issued).0 four.1);
            }

        from : MayRetire dependence a.faults at p → retires a p ≡ true
        from may =
            let front = shows.front in
            let issued = may.issued in
            let is = seen-is p issued in
            and_from (nat_eq p a.retired) _ (eq-eqb _ _ (may.oldest ∙ sym shows.retired))
            (and_from (nat_lt p (length a.seen)) _ (lt-ltb _ _ (omega arith))
            (and_from (seen_at a.seen p).applied _ (is.applied ∙ may.applied)
            (and_from (is_none (least_of a false)) _ (none-due.1 may.none_due)
            ((safe-is p issued).1 ((alone-safe p issued may.applied).1 may.safe)))))

    restart-same : (p : ℕ) → p < at.progress.front → restart_at a p ≡ restart_of dependence at.progress p
    restart-same p l = let is = seen-is p l in rw (shows.front, is.attempt) refl

    pub restart-is : (r : Restart)
        → (IsRestart a r (struck_in a)) ↔ ((p : ℕ) × (struck_next dependence a.faults at.progress ≡ Some p)
        × (r ≡ restart_of dependence at.progress p))
    restart-is r = go (struck_in a) refl
      where
        go : (o : Option ℕ) → struck_in a ≡ o
            → IsRestart a r o ↔ ((p : ℕ) × (struck_next dependence a.faults at.progress ≡ Some p)
            × (r ≡ restart_of dependence at.progress p))
        go None e = (λ h. absurd h, λ h. absurd (let bad = sym (struck-is ∙ h.1) ∙ e in cc))
        go (Some p) e =
            let some : struck_next dependence a.faults at.progress ≡ Some p = sym struck-is ∙ e in
            let low = (struck-live dependence a.faults at.progress p some).0 in (
              λ h. (p, some, h ∙ restart-same p low),
              λ h.
                  (let same : h.0 ≡ p = (let both = sym h.1 ∙ some in cc) in h.2
                  ∙ (ap (restart_of dependence at.progress) same ∙ sym (restart-same p low))),
            )

    -- the line may come next exactly where the rules allow its event
    pub takes-is : (l : TraceLine) → Takes a l ↔ LineAllowed dependence a.faults at l
    takes-is (line.Issue p) = issue-is p
    takes-is (line.Post p attempt) = post-is p attempt
    takes-is (line.Take p attempt applies) = take-is p attempt applies
    takes-is (line.Restart r) = restart-is r
    takes-is (line.Retire p) = retire-is p

    -- the run has ended
    pub whole-is : (is_whole a ≡ true) ↔ (IsFinal dependence a.faults at.progress × (at.retired ≡ dependence.count))
    whole-is = (to, from)
      where
        to : is_whole a ≡ true → IsFinal dependence a.faults at.progress × (at.retired ≡ dependence.count)
        to e =
            let one = and_parts (is_last a) _ e in
            let two = and_parts (is_none (struck_in a)) _ one.1 in (
              record { passed = eqb-true _ _ (sym last-is ∙ one.0); none_left = sym struck-is ∙ (none-decides (struck_in a)).0 two.0 },
              sym shows.retired ∙ eqb-true _ _ two.1,
            )

        from : IsFinal dependence a.faults at.progress × (at.retired ≡ dependence.count) → is_whole a ≡ true
        from h =
            and_from (is_last a) _ (last-is ∙ eq-eqb _ _ h.0.passed)
            (and_from (is_none (struck_in a)) _ ((none-decides (struck_in a)).1 (struck-is ∙ h.0.none_left))
            (eq-eqb _ _ (shows.retired ∙ h.1)))
