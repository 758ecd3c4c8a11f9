-- What is kept stands after the event of a line that may come next. There is one lemma for each kind of line. What is
-- kept of each position is compared with the stage after the event: a result that applies takes its position out of
-- those that wait; a restart raises the positions that it redoes, whose numbers rise, and those of them that were
-- applied wait again.
use Rattle.std.proofs.Common.{◌≡◌, ◌≢◌, ◌⊎◌, ◌↔◌, inl, inr, ℕ, zero, suc, ◌+◌, ◌<◌, ◌≤◌, Bool, true, false, not, cond, nat_eq, ◌&&◌, ◌||◌, List, [], ◌∷◌, ◌++◌, length, length-append, length-set, get_or, get_or-set_same, get_or-set_other, Contains, Some, refl, sym, ap, ◌∙◌, subst, arith}
use Rattle.std.specs.Prelude.{slice_get, slice_set, filter}
use Rattle.std.specs.List.Sorted.{IsStrictlyIncreasing}
use Rattle.std.proofs.lemmas.List.{get_or_default}
use Rattle.std.proofs.lemmas.Option.{slice_get_within, get_or_from_slice_get}
use Rattle.std.proofs.lemmas.Bool.{false≢true, false_from_ne_true, eqb-true, eq-eqb, ne_eqb, cases_lt}
use Rattle.std.proofs.lemmas.List.Elements.{All-contains, All-filter, All-contains_itself, filter_passes, Contains-push_cases, Contains-push, Contains-append_left, Contains-append_right, Contains-append_cases}
use Rattle.gp_base.specs.declared.journal.Event.TheVariants as event
use Rattle.gp_base.specs.declared.journal.Restart.{Restart}
use Rattle.dependence.specs.meaning.Dependents.{is_member}
use Rattle.dependence.specs.meaning.Restarts.{Dependence, begun_of, restart_of, struck_next}
use Rattle.dependence.specs.meaning.Journal.{Stage, MayIssue, MayPost, MayTake, MayRetire, happens, restarted}
use Rattle.dependence.specs.JournalTests.{same_attempt}
use Rattle.dependence.specs.Standing.{present, StageStands, NamesIssued}
use Rattle.dependence.proofs.RestartEnds.{attempt-push, begun-push}
use Rattle.dependence.proofs.Auditing.{same_attempt-decides}
use Rattle.dependence.proofs.DependentSets.{is_member-is, dependents_rise}
use Rattle.gp_audit.specs.declared.state.Seen.{Seen}
use Rattle.gp_audit.specs.declared.line.TraceLine.{TraceLine}
use Rattle.gp_audit.specs.declared.line.TraceLine.TheVariants as line
use Rattle.gp_audit.specs.Steps.{dependence_by}
use Rattle.gp_audit.specs.ToldLines.{event_of}
use Rattle.gp_audit.specs.inner.Audited.{Audited, seen_at, first_seen, posted_seen, taken_seen, raised_seen, changed_at, all_raised, left_waiting, where_applied, waits_again, after_line, IsSeen, Shows}
use Rattle.gp_audit.proofs.Shown.{seen-is}
use Rattle.gp_audit.proofs.StepOrder.{steps-redo}
use Rattle.gp_audit.proofs.ToldEvents.{LineAllowed}

module _ {A : Type 0} where
  -- what stands in a list with one more at its end
  pub push_cases : (xs : List A) (x : A) (q : ℕ) (y : A) → slice_get (xs ++ x ∷ []) q ≡ Some y
      → (slice_get xs q ≡ Some y) ⊎ ((q ≡ length xs) × (x ≡ y))
  push_cases [] x zero y e = inr (refl, cc e)
  push_cases [] x (suc q) y e = absurd (cc e)
  push_cases (z ∷ zs) x zero y e = inl e
  push_cases (z ∷ zs) x (suc q) y e = elim (push_cases zs x q y e) [ inl h ↦ inl h | inr h ↦ inr (ap suc h.0, h.1) ]

  -- what stands in a list where one place was set
  set_cases : (xs : List A) (p : ℕ) (x : A) (q : ℕ) (y : A) → slice_get (slice_set xs p x) q ≡ Some y
      → ((q ≡ p) × (x ≡ y)) ⊎ ((q ≢ p) × (slice_get xs q ≡ Some y))
  set_cases [] p x q y e = absurd (cc e)
  set_cases (z ∷ zs) zero x zero y e = inl (refl, cc e)
  set_cases (z ∷ zs) zero x (suc q) y e = inr ((λ f. absurd (omega arith)), e)
  set_cases (z ∷ zs) (suc p) x zero y e = inr ((λ f. absurd (omega arith)), e)
  set_cases (z ∷ zs) (suc p) x (suc q) y e =
      elim (set_cases zs p x q y e) [ inl h ↦ inl (ap suc h.0, h.1) | inr h ↦ inr ((λ f. h.0 (omega arith)), h.1) ]

Contains-cases : {A : Type 0} (x : A) (xs : List A) (y : A) → Contains (x ∷ xs) y → (x ≡ y) ⊎ Contains xs y
Contains-cases x xs y c = go c.0 c.1 c.2
  where
    go : (k : ℕ) → k < length (x ∷ xs) → get_or (x ∷ xs) k y ≡ y → (x ≡ y) ⊎ Contains xs y
    go zero l e = inl e
    go (suc k) l e = inr (k, omega arith, e)

-- what a filter keeps
filtered : {A : Type 0} (test : A → Bool) (xs : List A) (x : A) → Contains (filter test xs) x → Contains xs x × (test x ≡ true)
filtered test xs x c = (
  All-contains (Contains xs) (filter test xs) x (All-filter test (Contains xs) xs (All-contains_itself xs)) c,
  All-contains (λ y. test y ≡ true) (filter test xs) x (filter_passes test xs) c,
)

filtered-from : {A : Type 0} (test : A → Bool) (xs : List A) (x : A) → Contains xs x → test x ≡ true → Contains (filter test xs) x
filtered-from test [] x c e = c
filtered-from test (y ∷ ys) x c e = go (test y) refl (λ later. filtered-from test ys x later e) (Contains-cases y ys x c)
  where
    go : (b : Bool) → test y ≡ b → (Contains ys x → Contains (filter test ys) x) → (y ≡ x) ⊎ Contains ys x
        → Contains (cond b (y ∷ filter test ys) (filter test ys)) x
    go true f rest (inl same) =
        subst (λ z. Contains (y ∷ filter test ys) z) same (Contains-append_left (y ∷ []) (filter test ys) y (0, omega arith, refl))
    go true f rest (inr later) = Contains-append_right (y ∷ []) (filter test ys) x (rest later)
    go false f rest (inl same) = absurd (false≢true (sym f ∙ (ap test same ∙ e)))
    go false f rest (inr later) = rest later

-- the rest of a rising list rises
rising_tail : (p : ℕ) (redo : List ℕ) → IsStrictlyIncreasing (p ∷ redo) → IsStrictlyIncreasing redo
rising_tail p redo rising k l =
    let rises = rising (suc k) (omega arith) in
    let next : suc k + 1 ≡ suc (k + 1) = omega arith in
    subst (λ x. get_or (p ∷ redo) (suc k) 0 < get_or (p ∷ redo) x 0) next rises

-- a rising list has nothing else that is as low as its first
after_first : (p : ℕ) (redo : List ℕ) → IsStrictlyIncreasing (p ∷ redo) → (k : ℕ) → Contains redo k → p < k
after_first p redo rising k c = go c.0 c.1 c.2
  where
    all_above : (i : ℕ) → i < length redo → p < get_or redo i 0
    all_above zero l = rising 0 (omega arith)
    all_above (suc i) l =
        let before = all_above i (omega arith) in
        let rises = rising_tail p redo rising i (omega arith) in
        let more : suc i ≡ i + 1 = omega arith in
        let next = ap (λ x. get_or redo x 0) more in
        omega arith

    go : (i : ℕ) → i < length redo → get_or redo i k ≡ k → p < k
    go i l e = let above = all_above i l in let same = get_or_default redo i k 0 l in omega arith

pub raised_length : (front : ℕ) (redo : List ℕ) (seen : List Seen) → length (all_raised front redo seen) ≡ length seen
raised_length front [] seen = refl
raised_length front (p ∷ redo) seen =
    raised_length front redo (changed_at (raised_seen front) p seen) ∙ length-set seen p (raised_seen front (seen_at seen p))

-- what holds after a position was raised before the others
raised_step : (front p : ℕ) (redo : List ℕ) (seen : List Seen) (q : ℕ) (s : Seen) → ((k : ℕ) → Contains redo k → p < k)
    → (s ≡ cond (is_member q redo) (raised_seen front (seen_at (changed_at (raised_seen front) p seen) q))
    (seen_at (changed_at (raised_seen front) p seen) q)) × (q < length (changed_at (raised_seen front) p seen))
    → (s ≡ cond (is_member q (p ∷ redo)) (raised_seen front (seen_at seen q)) (seen_at seen q)) × (q < length seen)
raised_step front p redo seen q s above later = go (nat_eq q p) refl
  where
    within : q < length seen
    within = let wide = length-set seen p (raised_seen front (seen_at seen p)) in let w = later.1 in omega arith

    go : (b : Bool) → nat_eq q p ≡ b
        → (s ≡ cond (b || is_member q redo) (raised_seen front (seen_at seen q)) (seen_at seen q)) × (q < length seen)
    go true same =
        let is = eqb-true q p same in
        let none : is_member q redo ≡ false =
        false_from_ne_true _ (λ t. let c = (is_member-is q redo).0 t in let l = above q c in omega arith) in
        let here : seen_at (changed_at (raised_seen front) p seen) q ≡ raised_seen front (seen_at seen q) =
        subst (λ x. seen_at (changed_at (raised_seen front) x seen) q ≡ raised_seen front (seen_at seen q)) is
        (get_or-set_same seen q (raised_seen front (seen_at seen q)) (first_seen q) within) in
        ((rw none at later.0) ∙ here, within)
    go false other =
        let ne : q ≢ p = (λ is. false≢true (sym other ∙ eq-eqb q p is)) in
        let there : seen_at (changed_at (raised_seen front) p seen) q ≡ seen_at seen q =
        get_or-set_other seen p q (raised_seen front (seen_at seen p)) (first_seen q) ne in
        (rw there at later.0, within)

-- the positions that were raised, where they rise
pub raised_at : (front : ℕ) (redo : List ℕ) (seen : List Seen) (q : ℕ) (s : Seen) → ((k : ℕ) → Contains redo k → k < length seen)
    → IsStrictlyIncreasing redo
    → slice_get (all_raised front redo seen) q ≡ Some s
    → (s ≡ cond (is_member q redo) (raised_seen front (seen_at seen q)) (seen_at seen q)) × (q < length seen)
raised_at front [] seen q s low rising e = (sym (get_or_from_slice_get seen q s (first_seen q) e), slice_get_within seen q s e)
raised_at front (p ∷ redo) seen q s low rising e =
    raised_step front p redo seen q s (after_first p redo rising)
    (raised_at front redo (changed_at (raised_seen front) p seen) q s
    (λ k c. let l = low k (Contains-append_right (p ∷ []) redo k c) in let wide = length-set seen p (raised_seen front (seen_at seen p)) in
    omega arith) (rising_tail p redo rising) e)

-- what waits again is redone
waits-redone : (front : ℕ) (redo : List ℕ) (seen : List Seen) (q : ℕ) → Contains (waits_again front redo seen) q → Contains redo q
waits-redone front [] seen q c = c
waits-redone front (p ∷ redo) seen q c =
    let later = changed_at (raised_seen front) p seen in
    elim (Contains-append_cases (where_applied (seen_at seen p).applied p) (waits_again front redo later) q c) [
      | inl here ↦ only (seen_at seen p).applied here
      | inr rest ↦ Contains-append_right (p ∷ []) redo q (waits-redone front redo later q rest)
    ]
  where
    only : (b : Bool) → Contains (where_applied b p) q → Contains (p ∷ redo) q
    only true h = Contains-append_left (p ∷ []) redo q h
    only false h = absurd (let l = h.1 in omega arith)

-- what is redone and was applied waits again
redone-waits : (front : ℕ) (redo : List ℕ) (seen : List Seen) (q : ℕ) → Contains redo q → (seen_at seen q).applied ≡ true
    → Contains (waits_again front redo seen) q
redone-waits front [] seen q c applied = c
redone-waits front (p ∷ redo) seen q c applied = go (nat_eq q p) refl (redone-waits front redo (changed_at (raised_seen front) p seen) q)
  where
    go : (b : Bool) → nat_eq q p ≡ b
        → (Contains redo q → (seen_at (changed_at (raised_seen front) p seen) q).applied ≡ true
        → Contains (waits_again front redo (changed_at (raised_seen front) p seen)) q)
        → Contains (where_applied (seen_at seen p).applied p ++ waits_again front redo (changed_at (raised_seen front) p seen)) q
    go true e later =
        let same : p ≡ q = sym (eqb-true q p e) in
        let here : (seen_at seen p).applied ≡ true = subst (λ x. (seen_at seen x).applied ≡ true) (sym same) applied in
        Contains-append_left (where_applied (seen_at seen p).applied p) (waits_again front redo (changed_at (raised_seen front) p seen)) q
        (subst (λ b. Contains (where_applied b p) q) (sym here) (0, omega arith, same))
    go false e later =
        let ne : q ≢ p = (λ is. false≢true (sym e ∙ eq-eqb q p is)) in
        let there : seen_at (changed_at (raised_seen front) p seen) q ≡ seen_at seen q =
        get_or-set_other seen p q (raised_seen front (seen_at seen p)) (first_seen q) ne in
        let rest : Contains redo q = elim (Contains-cases p redo q c) [ inl same ↦ absurd (ne (sym same)) | inr more ↦ more ] in
        Contains-append_right (where_applied (seen_at seen p).applied p) (waits_again front redo (changed_at (raised_seen front) p seen)) q
        (later rest (ap (λ (s : Seen). s.applied) there ∙ applied))

module _ (at : Stage) (a : Audited) (shows : Shows at a) (stands : StageStands (dependence_by a.steps) a.faults at)
    (names : NamesIssued at) where
  abbrev dependence : Dependence
  dependence = dependence_by a.steps

  none-posted : (p attempt : ℕ) → at.progress.front ≤ p → ¬ Contains at.posted (p, attempt)
  none-posted p attempt l c = let low = names.posted p attempt c in omega arith

  issued : (p : ℕ) → MayIssue dependence a.faults at p
      → Shows (happens dependence a.faults at (event.Issue p)) (after_line a (line.Issue p))
  issued p may =
      record {
        front = length-append a.seen (first_seen p ∷ []) ∙ (let front = shows.front in omega arith);
        retired = shows.retired;
        each = λ q s e. elim (push_cases a.seen (first_seen p) q s e) [
          | inl old ↦ same q s (shows.each q s old)
          | inr new ↦
              subst (IsSeen (happens dependence a.faults at (event.Issue p)) q) new.1
              (subst (λ x. IsSeen (happens dependence a.faults at (event.Issue p)) x (first_seen p)) (sym (here q new.0)) fresh)
        ];
        out = shows.out;
        waiting = λ q. (to q, from q);
      }
    where
      to : (q : ℕ) → Contains (a.waiting ++ p ∷ []) q → (q < at.progress.front + 1) × (at.applied q ≡ false)
      to q c =
          elim (Contains-push_cases a.waiting p q c) [
            | inl old ↦ (let h = (shows.waiting q).0 old in let low = h.0 in let l : q < at.progress.front + 1 = omega arith in (l, h.1))
            | inr new ↦ (let next = may.next in let l : q < at.progress.front + 1 = omega arith in
                (l, false_from_ne_true (at.applied q) (λ e. (let low = names.applied q e in omega arith))))
          ]

      from : (q : ℕ) → (q < at.progress.front + 1) × (at.applied q ≡ false) → Contains (a.waiting ++ p ∷ []) q
      from q h =
          elim (cases_lt q at.progress.front) [
            | inl l ↦ Contains-append_left a.waiting (p ∷ []) q ((shows.waiting q).1 (l, h.1))
            | inr l ↦
                (let low = h.0 in let next = may.next in let same : p ≡ q = omega arith in
                subst (Contains (a.waiting ++ p ∷ [])) same (Contains-push a.waiting p))
          ]

      same : (q : ℕ) (s : Seen) → IsSeen at q s → IsSeen (happens dependence a.faults at (event.Issue p)) q s
      same q s is = record { attempt = is.attempt; begun = is.begun; posted = is.posted; applied = is.applied; taken = is.taken }

      here : (q : ℕ) → q ≡ length a.seen → q ≡ p
      here q e = let front = shows.front in let next = may.next in omega arith

      past : at.progress.front ≤ p
      past = let next = may.next in omega arith

      fresh : IsSeen (happens dependence a.faults at (event.Issue p)) p (first_seen p)
      fresh =
          record {
            attempt = sym (names.attempt p past);
            begun = sym (names.begun p past);
            posted = (λ e. absurd (false≢true e), λ c. absurd (none-posted p (present at p) past c));
            applied = sym (false_from_ne_true (at.applied p) (λ e. let low = names.applied p e in omega arith));
            taken = (λ e. absurd (false≢true e), λ w. absurd (let low = names.taken p w.0 w.1 in omega arith));
          }

  posted : (p attempt : ℕ) → MayPost dependence at p attempt
      → Shows (happens dependence a.faults at (event.Post p attempt)) (after_line a (line.Post p attempt))
  posted p attempt may =
      record {
        front = length-set a.seen p (posted_seen (seen_at a.seen p)) ∙ shows.front;
        retired = shows.retired;
        each = λ q s e. elim (set_cases a.seen p (posted_seen (seen_at a.seen p)) q s e) [
          | inl here ↦ subst (IsSeen after q) here.1 (subst (λ x. IsSeen after x (posted_seen (seen_at a.seen p))) (sym here.0) now)
          | inr other ↦ still q s other.0 (shows.each q s other.1)
        ];
        out = λ q b. (to q b, from q b);
        waiting = shows.waiting;
      }
    where
      after : Stage
      after = happens dependence a.faults at (event.Post p attempt)

      was : IsSeen at p (seen_at a.seen p)
      was = seen-is at a shows p may.issued

      now : IsSeen after p (posted_seen (seen_at a.seen p))
      now =
          record {
            attempt = was.attempt;
            begun = was.begun;
            posted = (λ _. subst (λ b. Contains after.posted (p, b)) may.present (Contains-push at.posted (p, attempt)), λ _. refl);
            applied = was.applied;
            taken = was.taken;
          }

      still : (q : ℕ) (s : Seen) → q ≢ p → IsSeen at q s → IsSeen after q s
      still q s ne is =
          record {
            attempt = is.attempt;
            begun = is.begun;
            posted = (
              λ e. Contains-append_left at.posted ((p, attempt) ∷ []) (q, present at q) (is.posted.0 e),
              λ c. elim (Contains-push_cases at.posted (p, attempt) (q, present at q) c) [
                | inl old ↦ is.posted.1 old
                | inr new ↦ absurd (ne (sym (ap (λ x. x.0) new)))
              ],
            );
            applied = is.applied;
            taken = is.taken;
          }

      to : (q b : ℕ) → Contains (a.out ++ (p, attempt) ∷ []) (q, b) → Contains after.posted (q, b) × ¬ Contains at.taken (q, b)
      to q b c =
          elim (Contains-push_cases a.out (p, attempt) (q, b) c) [
            | inl old ↦ (let h = (shows.out q b).0 old in (Contains-append_left at.posted ((p, attempt) ∷ []) (q, b) h.0, h.1))
            | inr new ↦
                subst (λ x. Contains after.posted x × ¬ Contains at.taken x) new
                (Contains-push at.posted (p, attempt), λ t. may.unposted (stands.taken_posted p attempt t))
          ]

      from : (q b : ℕ) → Contains after.posted (q, b) × ¬ Contains at.taken (q, b) → Contains (a.out ++ (p, attempt) ∷ []) (q, b)
      from q b h =
          elim (Contains-push_cases at.posted (p, attempt) (q, b) h.0) [
            | inl old ↦ Contains-append_left a.out ((p, attempt) ∷ []) (q, b) ((shows.out q b).1 (old, h.1))
            | inr new ↦ subst (Contains (a.out ++ (p, attempt) ∷ [])) new (Contains-push a.out (p, attempt))
          ]

  -- what waits after a result
  left_shows : (p q : ℕ) (applies : Bool)
      → Contains (left_waiting applies p a.waiting) q ↔ ((q < at.progress.front) × (((applies && nat_eq q p) || at.applied q) ≡ false))
  left_shows p q false = shows.waiting q
  left_shows p q true = (to, from (nat_eq q p) refl)
    where
      to : Contains (filter (λ x. not (nat_eq x p)) a.waiting) q → (q < at.progress.front) × ((nat_eq q p || at.applied q) ≡ false)
      to c =
          let f = filtered (λ x. not (nat_eq x p)) a.waiting q c in
          let h = (shows.waiting q).0 f.0 in
          let other : nat_eq q p ≡ false = false_from_ne_true (nat_eq q p) (λ e. false≢true (sym (ap not e) ∙ f.1)) in
          (h.0, rw (other, h.1) refl)

      from : (b : Bool) → nat_eq q p ≡ b → (q < at.progress.front) × ((b || at.applied q) ≡ false)
          → Contains (filter (λ x. not (nat_eq x p)) a.waiting) q
      from true e h = absurd (false≢true (sym h.1))
      from false e h = filtered-from (λ x. not (nat_eq x p)) a.waiting q ((shows.waiting q).1 h) (ap not e)

  taken : (p attempt : ℕ) (applies : Bool) → MayTake at p attempt applies
      → Shows (happens dependence a.faults at (event.Take p attempt applies)) (after_line a (line.Take p attempt applies))
  taken p attempt applies may =
      record {
        front = length-set a.seen p (taken_seen applies (seen_at a.seen p)) ∙ shows.front;
        retired = shows.retired;
        each = λ q s e. elim (set_cases a.seen p (taken_seen applies (seen_at a.seen p)) q s e) [
          | inl here ↦ subst (IsSeen after q) here.1 (subst (λ x. IsSeen after x (taken_seen applies (seen_at a.seen p))) (sym here.0) now)
          | inr other ↦ still q s other.0 (shows.each q s other.1)
        ];
        out = λ q b. (to q b, from q b);
        waiting = λ q. left_shows p q applies;
      }
    where
      after : Stage
      after = happens dependence a.faults at (event.Take p attempt applies)

      was : IsSeen at p (seen_at a.seen p)
      was = seen-is at a shows p (names.posted p attempt may.posted)

      and-true : (b : Bool) → (b && true) ≡ b
      and-true true = refl
      and-true false = refl

      and-false : (b : Bool) → (b && false) ≡ false
      and-false true = refl
      and-false false = refl

      now : IsSeen after p (taken_seen applies (seen_at a.seen p))
      now =
          record {
            attempt = was.attempt;
            begun = was.begun;
            posted = was.posted;
            applied = rw (eq-eqb p p refl, and-true applies, was.applied) refl;
            taken = (λ _. (attempt, Contains-push at.taken (p, attempt)), λ _. refl);
          }

      still : (q : ℕ) (s : Seen) → q ≢ p → IsSeen at q s → IsSeen after q s
      still q s ne is =
          record {
            attempt = is.attempt;
            begun = is.begun;
            posted = is.posted;
            applied = rw (ne_eqb q p ne, and-false applies) is.applied;
            taken = (
              λ e. (let w = is.taken.0 e in (w.0, Contains-append_left at.taken ((p, attempt) ∷ []) (q, w.0) w.1)),
              λ w. elim (Contains-push_cases at.taken (p, attempt) (q, w.0) w.1) [
                | inl old ↦ is.taken.1 (w.0, old)
                | inr new ↦ absurd (ne (sym (ap (λ x. x.0) new)))
              ],
            );
          }

      to : (q b : ℕ) → Contains (filter (λ pair. not (same_attempt (p, attempt) pair)) a.out) (q, b)
          → Contains at.posted (q, b) × ¬ Contains after.taken (q, b)
      to q b c =
          let f = filtered (λ pair. not (same_attempt (p, attempt) pair)) a.out (q, b) c in
          let h = (shows.out q b).0 f.0 in (
            h.0,
            λ t. elim (Contains-push_cases at.taken (p, attempt) (q, b) t) [
              | inl old ↦ h.1 old
              | inr new ↦ false≢true (sym (ap not ((same_attempt-decides (p, attempt) (q, b)).1 new)) ∙ f.1)
            ],
          )

      from : (q b : ℕ) → Contains at.posted (q, b) × ¬ Contains after.taken (q, b)
          → Contains (filter (λ pair. not (same_attempt (p, attempt) pair)) a.out) (q, b)
      from q b h =
          filtered-from (λ pair. not (same_attempt (p, attempt) pair)) a.out (q, b)
          ((shows.out q b).1 (h.0, λ t. h.1 (Contains-append_left at.taken ((p, attempt) ∷ []) (q, b) t)))
          (differs (same_attempt (p, attempt) (q, b)) refl)
        where
          differs : (d : Bool) → same_attempt (p, attempt) (q, b) ≡ d → not d ≡ true
          differs true e =
              absurd (h.1 (subst (Contains after.taken) ((same_attempt-decides (p, attempt) (q, b)).0 e)
              (Contains-push at.taken (p, attempt))))
          differs false e = refl

  restart_shows : (r : Restart) (struck : ℕ) → struck_next dependence a.faults at.progress ≡ Some struck
      → r ≡ restart_of dependence at.progress struck
      → Shows (restarted dependence at (Some struck)) (after_line a (line.Restart r))
  restart_shows r struck some is =
      record {
        front = raised_length (length a.seen) r.redo a.seen ∙ shows.front;
        retired = shows.retired;
        each = λ q s e. (let h = raised_at (length a.seen) r.redo a.seen q s low rising e in
            let issued : q < at.progress.front = (let w = h.1 in let front = shows.front in omega arith) in
            subst (IsSeen after q) (sym h.0) (now q issued (is_member q r.redo) refl));
        out = shows.out;
        waiting = λ q. (to q, from q);
      }
    where
      after : Stage
      after = restarted dependence at (Some struck)

      redo_is : r.redo ≡ (restart_of dependence at.progress struck).redo
      redo_is = ap (λ x. x.redo) is

      low : (k : ℕ) → Contains r.redo k → k < length a.seen
      low k c =
          let l = (steps-redo a.steps).below struck at.progress.front k (subst (λ x. Contains x k) redo_is c) in
          let front = shows.front in
          omega arith

      rising : IsStrictlyIncreasing r.redo
      rising = subst IsStrictlyIncreasing (sym redo_is) (dependents_rise _ struck at.progress.front)

      made : Restart
      made = restart_of dependence at.progress struck

      attempt_now : (q : ℕ) (b : Bool) → is_member q r.redo ≡ b → present after q ≡ present at q + cond b 1 0
      attempt_now q b e = attempt-push at.progress.made made q ∙ ap (λ x. present at q + cond x 1 0) (ap (is_member q) (sym redo_is) ∙ e)

      begun_now : (q : ℕ) (b : Bool) → is_member q r.redo ≡ b
          → begun_of after.progress.made q ≡ cond b at.progress.front (begun_of at.progress.made q)
      begun_now q b e =
          begun-push at.progress.made made q ∙ ap (λ x. cond x at.progress.front (begun_of at.progress.made q))
          (ap (is_member q) (sym redo_is) ∙ e)

      applied_now : (q : ℕ) (b : Bool) → is_member q r.redo ≡ b → after.applied q ≡ cond b false (at.applied q)
      applied_now q b e = ap (λ x. cond x false (at.applied q)) (ap (is_member q) (sym redo_is) ∙ e)

      -- what is redone is not applied
      not_applied : (q : ℕ) → Contains r.redo q → after.applied q ≡ false
      not_applied q c = applied_now q true ((is_member-is q r.redo).1 c)

      to : (q : ℕ) → Contains (a.waiting ++ waits_again (length a.seen) r.redo a.seen) q
          → (q < at.progress.front) × (after.applied q ≡ false)
      to q c =
          elim (Contains-append_cases a.waiting (waits_again (length a.seen) r.redo a.seen) q c) [
            | inl old ↦ (let h = (shows.waiting q).0 old in (h.0, still (is_member q r.redo) refl h.1))
            | inr new ↦ (let member = waits-redone (length a.seen) r.redo a.seen q new in let k = low q member in let front = shows.front in
                let l : q < at.progress.front = omega arith in (l, not_applied q member))
          ]
        where
          still : (b : Bool) → is_member q r.redo ≡ b → at.applied q ≡ false → after.applied q ≡ false
          still true e f = applied_now q true e
          still false e f = applied_now q false e ∙ f

      from : (q : ℕ) → (q < at.progress.front) × (after.applied q ≡ false)
          → Contains (a.waiting ++ waits_again (length a.seen) r.redo a.seen) q
      from q h = go (is_member q r.redo) refl (at.applied q) refl
        where
          go : (b : Bool) → is_member q r.redo ≡ b → (v : Bool) → at.applied q ≡ v
              → Contains (a.waiting ++ waits_again (length a.seen) r.redo a.seen) q
          go b e false f = Contains-append_left a.waiting (waits_again (length a.seen) r.redo a.seen) q ((shows.waiting q).1 (h.0, f))
          go true e true f =
              Contains-append_right a.waiting (waits_again (length a.seen) r.redo a.seen) q
              (redone-waits (length a.seen) r.redo a.seen q ((is_member-is q r.redo).0 e) ((seen-is at a shows q h.0).applied ∙ f))
          go false e true f = absurd (false≢true (sym h.1 ∙ (applied_now q false e ∙ f)))

      now : (q : ℕ) → q < at.progress.front → (b : Bool) → is_member q r.redo ≡ b
          → IsSeen after q (cond b (raised_seen (length a.seen) (seen_at a.seen q)) (seen_at a.seen q))
      now q issued true e =
          let was = seen-is at a shows q issued in
          let attempt = attempt_now q true e in
          record {
            attempt = ap (λ n. n + 1) was.attempt ∙ sym attempt;
            begun = shows.front ∙ sym (begun_now q true e);
            posted = (λ f. absurd (false≢true f), λ c. absurd (let l = (stands.posted_low q (present after q) c).1 in omega arith));
            applied = sym (applied_now q true e);
            taken = was.taken;
          }
      now q issued false e =
          let was = seen-is at a shows q issued in
          let attempt : present after q ≡ present at q = (let h = attempt_now q false e in omega arith) in
          record {
            attempt = was.attempt ∙ sym attempt;
            begun = was.begun ∙ sym (begun_now q false e);
            posted = (
              λ f. subst (λ n. Contains at.posted (q, n)) (sym attempt) (was.posted.0 f),
              λ c.
                  was.posted.1 (subst (λ n. Contains at.posted (q, n)) attempt c),
            );
            applied = was.applied ∙ sym (applied_now q false e);
            taken = was.taken;
          }

  retired : (p : ℕ) → MayRetire dependence a.faults at p
      → Shows (happens dependence a.faults at (event.Retire p)) (after_line a (line.Retire p))
  retired p may =
      record {
        front = shows.front;
        retired = refl;
        each = λ q s e. (let is = shows.each q s e in
            record { attempt = is.attempt; begun = is.begun; posted = is.posted; applied = is.applied; taken = is.taken });
        out = shows.out;
        waiting = shows.waiting;
      }

  -- after the event of a line that may come next
  pub line-shows : (l : TraceLine) (made : ℕ) → LineAllowed dependence a.faults at l
      → Shows (happens dependence a.faults at (event_of made l)) (after_line a l)
  line-shows (line.Issue p) made may = issued p may
  line-shows (line.Post p attempt) made may = posted p attempt may
  line-shows (line.Take p attempt applies) made may = taken p attempt applies may
  line-shows (line.Retire p) made may = retired p may
  line-shows (line.Restart r) made may =
      subst (λ o. Shows (restarted dependence at o) (after_line a (line.Restart r))) (sym may.1) (restart_shows r may.0 may.1 may.2)
