-- The entries stand after each event that is allowed. There is one lemma for each event. An entry stands by what the
-- stage has of its position alone (carried): so an event that changes this for one position, or for those that a
-- restart redoes, leaves the other entries standing, and the entries of those are changed to fit.
use Rattle.std.proofs.Common.{◌≡◌, ◌↔◌, inl, inr, ℕ, ℤ, zero, suc, ◌+◌, ◌<◌, ◌≤◌, Bool, true, false, cond, nat_eq, ◌||◌, List, [], ◌∷◌, ◌++◌, Contains, Option, Some, None, IfSome, IsTrue, map, refl, sym, ap, subst, ◌∙◌, arith, length-append, slice_get}
use Rattle.std.specs.Prelude.{is_some, option_map}
use Rattle.std.proofs.lemmas.Bool.{false≢true, cases_lt, eq-eqb, ne_eqb, eqb-true, eqb-false}
use Rattle.std.proofs.lemmas.List.Elements.{Contains-push_cases, Contains-push, Contains-append_left}
use Rattle.std.specs.List.{slice_index_or}
use Rattle.gp_base.specs.declared.fault.Fault.{Fault}
use Rattle.gp_base.specs.declared.footprint.Footprint.{Footprint}
use Rattle.gp_base.specs.declared.journal.Event.TheVariants as event
use Rattle.gp_base.specs.declared.journal.Restart.{Restart}
use Rattle.task_ast.specs.declared.effect.Effect.{Effect}
use Rattle.task_ast.specs.meaning.Plain.{Subthread, foot_of}
use Rattle.task_ast.specs.Plain.{lock_foot_of}
use Rattle.dependence.specs.meaning.Conflict.{foot_at, clash_in}
use Rattle.dependence.specs.Conflict.{Conflict}
use Rattle.dependence.specs.meaning.Dependents.{is_member}
use Rattle.dependence.specs.meaning.Restarts.{Dependence, attempt_of, begun_of, struck_next, restart_of}
use Rattle.dependence.specs.meaning.Journal.{Stage, Allowed, happens, restarted, WasTaken, MayPost}
use Rattle.dependence.specs.Posting.{by_locks}
use Rattle.dependence.specs.meaning.Runs.{feet_of}
use Rattle.dependence.specs.Runs.{lock_feet_of}
use Rattle.dependence.specs.Standing.{present, StageStands, NamesIssued}
use Rattle.dependence.proofs.Conflicting.{conflicting-is}
use Rattle.dependence.proofs.RestartEnds.{attempt-push, begun-push}
use Rattle.reorder_list.specs.declared.entry.Entry.{Entry}
use Rattle.reorder_list.specs.Entries.{StandFrom, AllKnown, entry_at, with_change, with_change_at, out_entry, known_entry, applied_entry, raised_entry}
use Rattle.reorder_list.specs.Runnable.{IsRunnable}
use Rattle.reorder_list.specs.Stages.{IsOf, IsEntry, EntriesStand, IsFirst, AllTaken}
use Rattle.reorder_list.proofs.Rows.{stands-push}
use Rattle.reorder_list.proofs.Changes.{KeepsPosition, changed_where, changed, pushed, from-first, is-there, all-there, each-there, stands-changed, same-length}

-- what a list that is made of a run has at a position
foot-there : (foot : Subthread → Footprint) (run : List Subthread) (p : ℕ) (s : Subthread) (d : Footprint) → slice_get run p ≡ Some s
    → slice_index_or (map foot run) p d ≡ foot s
foot-there foot [] p s d there = absurd (cc there)
foot-there foot (x ∷ run) zero s d there = ap foot (let same : x ≡ s = cc there in same)
foot-there foot (x ∷ run) (suc p) s d there = foot-there foot run p s d there

-- two changes of one position, one after the other
change-twice : (p : ℕ) (first then' : Entry → Entry) (entries : List Entry) → KeepsPosition first
    → with_change_at p then' (with_change_at p first entries) ≡ with_change_at p (λ e. then' (first e)) entries
change-twice p first then' [] keeps = refl
change-twice p first then' (e ∷ entries) keeps = λ i. go (nat_eq e.pos p) refl i ∷ change-twice p first then' entries keeps i
  where
    go : (b : Bool) → nat_eq e.pos p ≡ b
        → let x = changed_where (nat_eq e.pos p) first e in
        changed_where (nat_eq x.pos p) then' x ≡ changed_where (nat_eq e.pos p) (λ y. then' (first y)) e
    go true same = rw (same, ap (λ k. nat_eq k p) (keeps e) ∙ same) refl
    go false same = rw (same, same) refl

known-some : (o : Option Footprint) (foot : Footprint) → IfSome o (λ f. f ≡ foot) → IsTrue (is_some o) → o ≡ Some foot
known-some (Some f) foot same some = ap Some same
known-some None foot same some = absurd (false≢true some)

-- the entry that a change leaves at a position
pub changed-there : (test : ℕ → Bool) (change : Entry → Entry) (entries : List Entry) (q : ℕ) (x : Entry) → KeepsPosition change
    → entry_at (with_change test change entries) q ≡ Some x
    → (y : Entry) × (entry_at entries q ≡ Some y) × (x ≡ changed_where (test q) change y)
changed-there test change entries q x keeps there = go (entry_at entries q) refl (sym (changed test change entries q keeps) ∙ there)
  where
    go : (o : Option Entry) → entry_at entries q ≡ o → option_map (changed_where (test q) change) o ≡ Some x
        → (y : Entry) × (entry_at entries q ≡ Some y) × (x ≡ changed_where (test q) change y)
    go None is found = absurd (cc found)
    go (Some y) is found = (y, is, let same : changed_where (test q) change y ≡ x = cc found in sym same)

-- an entry with the thread, the synchronisation, the child and the locks of another is of the same subthread
same-of : (s : Subthread) (y z : Entry) → IsOf s y → z.thread ≡ y.thread → z.begins ≡ y.begins → z.child ≡ y.child → z.held ≡ y.held
    → z.locks ≡ y.locks → IsOf s z
same-of s y z is thread begins child held locks =
    record {
      thread = thread ∙ is.thread;
      begins = begins ∙ is.begins;
      child = child ∙ is.child;
      held = held ∙ is.held;
      locks = locks ∙ is.locks;
    }

module _ (run : List Subthread) where
  -- where a stage has the same of a position, its entry stands as before
  carried : (at later : Stage) (p : ℕ) (e : Entry) → later.progress.made ≡ at.progress.made
      → Contains later.posted (p, present at p) ↔ Contains at.posted (p, present at p) → later.applied p ≡ at.applied p
      → WasTaken later p ↔ WasTaken at p → IsEntry run at p e → IsEntry run later p e
  carried at later p e made posted applied taken is =
      let same : present later p ≡ present at p = ap (λ m. attempt_of m p) made in
      record {
        subthread = is.subthread;
        is_there = is.is_there;
        is_of = is.is_of;
        attempt = is.attempt ∙ sym same;
        begun = is.begun ∙ ap (λ m. begun_of m p) (sym made);
        waits = (
          λ w h. is.waits.0 w (posted.0 (subst (λ a. Contains later.posted (p, a)) same h)),
          λ free. is.waits.1 (λ h. free (subst (λ a. Contains later.posted (p, a)) (sym same) (posted.1 h))),
        );
        applied = (λ s. applied ∙ is.applied.0 s, λ a. is.applied.1 (sym applied ∙ a));
        foot = is.foot;
        known = (λ some. taken.1 (is.known.0 some), λ was. is.known.1 (taken.0 was));
      }

  -- with one more that is taken, what was taken of another position is the same
  taken-too : (dependence : Dependence) (at : Stage) (p attempt q : ℕ) (applies : Bool) (faults : List Fault) → nat_eq q p ≡ false
      → WasTaken (happens dependence faults at (event.Take p attempt applies)) q ↔ WasTaken at q
  taken-too dependence at p attempt q applies faults other = (
    λ was. elim (Contains-push_cases at.taken (p, attempt) (q, was.0) was.1) [
      | inl old ↦ (was.0, old)
      | inr new ↦ (let k : p ≡ q = ap (λ x. x.0) new in absurd (eqb-false q p other (sym k)))
    ],
    λ was. (was.0, Contains-append_left at.taken ((p, attempt) ∷ []) (q, was.0) was.1),
  )

  module _ (at : Stage) (entries : List Entry) (stand : EntriesStand run at entries) where
    -- the entry of one position is changed so that it stands at a later stage, where the others stand as before
    one-changed : (later : Stage) (p : ℕ) (change : Entry → Entry) → KeepsPosition change → later.retired ≡ at.retired
        → later.progress.front ≡ at.progress.front
        → ((y : Entry) → IsEntry run at p y → IsEntry run later p (change y))
        → ((q : ℕ) (y : Entry) → nat_eq q p ≡ false → IsEntry run at q y → IsEntry run later q y)
        → EntriesStand run later (with_change_at p change entries)
    one-changed later p change keeps retired front here others =
        record {
          row = subst (λ n. StandFrom n (with_change_at p change entries)) (sym retired)
              (stands-changed at.retired (λ q. nat_eq q p) change entries keeps stand.row);
          front = (λ i. retired i + same-length (λ q. nat_eq q p) change entries i) ∙ (stand.front ∙ sym front);
          each = λ q x there. (let y = changed-there (λ r. nat_eq r p) change entries q x keeps there in
              subst (IsEntry run later q) (sym y.2) (go q y.0 (nat_eq q p) refl (stand.each q y.0 y.1)));
        }
      where
        go : (q : ℕ) (y : Entry) (b : Bool) → nat_eq q p ≡ b → IsEntry run at q y → IsEntry run later q (changed_where b change y)
        go q y true same is =
            let k = eqb-true q p same in
            subst (λ r. IsEntry run later r (change y)) (sym k) (here y (subst (λ r. IsEntry run at r y) k is))
        go q y false other is = others q y other is

    -- the footprint by locks of an entry is that of its position
    pub locks-is : (q : ℕ) (x : Entry) → entry_at entries q ≡ Some x → x.locks ≡ foot_at (lock_feet_of run) q
    locks-is q x there = let is = stand.each q x there in is.is_of.locks ∙ sym (foot-there lock_foot_of run q is.subthread _ is.is_there)

    -- and so is the one that is known
    pub foot-is : (q : ℕ) (x : Entry) → entry_at entries q ≡ Some x → IsTrue (is_some x.foot) → x.foot ≡ Some (foot_at (feet_of run) q)
    foot-is q x there some =
        let is = stand.each q x there in
        known-some x.foot (foot_of is.subthread) is.foot some ∙ ap Some (sym (foot-there foot_of run q is.subthread _ is.is_there))

    -- all are known exactly where all were taken
    pub known-taken : AllKnown entries → AllTaken at
    known-taken known p low high =
        let found = is-there at.retired entries p stand.row low (let f = stand.front in omega arith) in
        (stand.each p found.0 found.1).known.0 (all-there (λ (e : Entry). IsTrue (is_some e.foot)) entries p found.0 known found.1)

    pub taken-known : AllTaken at → AllKnown entries
    taken-known taken =
        each-there (λ (e : Entry). IsTrue (is_some e.foot)) at.retired entries stand.row
        (λ p e there. (let bounds = from-first at.retired entries p e stand.row there in
        let high = bounds.1 in
        let f = stand.front in
        (stand.each p e there).known.1 (taken p bounds.0 (omega arith))))

    module _ (dependence : Dependence) (faults : List Fault) where
      -- the run as posting by locks reads it
      abbrev posting : Dependence
      posting = by_locks (clash_in (lock_feet_of run)) dependence

      pub may-post : (p : ℕ) → StageStands dependence faults at → IsRunnable entries p
          → MayPost posting at p (present at p)
      may-post p stands runnable =
          let bounds = from-first at.retired entries p runnable.entry stand.row runnable.is_there in
          record {
            issued = let high = bounds.1 in let f = stand.front in omega arith;
            unretired = bounds.0;
            present = refl;
            unposted = (stand.each p runnable.entry runnable.is_there).waits.0 runnable.waits;
            ready = λ q l clash. elim (cases_lt q at.retired) [
              | inl gone ↦ stands.retired_applied q gone
              | inr low ↦ earlier q l low clash (is-there at.retired entries q stand.row low (let high = bounds.1 in omega arith))
            ];
          }
        where
          earlier : (q : ℕ) → q < p → at.retired ≤ q → posting.clash q p ≡ true → (x : Entry) × (entry_at entries q ≡ Some x)
              → at.applied q ≡ true
          earlier q l low clash found =
              let both = (conflicting-is (foot_at (lock_feet_of run) q) (foot_at (lock_feet_of run) p)).0 clash in
              (stand.each q found.0 found.1).applied.0
              (runnable.ready q found.0 l found.1
              (subst (λ f. Conflict f runnable.entry.locks) (sym (locks-is q found.0 found.1))
              (subst (Conflict (foot_at (lock_feet_of run) q)) (sym (locks-is p runnable.entry runnable.is_there)) both)))

      pub is-runnable : (p : ℕ) → MayPost posting at p (present at p) → IsRunnable entries p
      is-runnable p may =
          found (is-there at.retired entries p stand.row may.unretired (let l = may.issued in let f = stand.front in omega arith))
        where
          found : (x : Entry) × (entry_at entries p ≡ Some x) → IsRunnable entries p
          found here =
              record {
                entry = here.0;
                is_there = here.1;
                waits = (stand.each p here.0 here.1).waits.1 may.unposted;
                ready = λ q x l there clash. (stand.each q x there).applied.1
                    (may.ready q l ((conflicting-is (foot_at (lock_feet_of run) q) (foot_at (lock_feet_of run) p)).1
                    (subst (λ f. Conflict f (foot_at (lock_feet_of run) p)) (locks-is q x there)
                    (subst (Conflict x.locks) (locks-is p here.0 here.1) clash))));
              }

      module _ (p : ℕ) (e : Entry) (names : NamesIssued at) (allowed : Allowed dependence faults at (event.Issue p))
          (first : IsFirst run p e) where
        abbrev issued : Stage
        issued = happens dependence faults at (event.Issue p)

        new-entry : IsEntry run issued p e
        new-entry =
            record {
              subthread = first.subthread;
              is_there = first.is_there;
              is_of = first.is_of;
              attempt = first.attempt ∙ sym (names.attempt p (let n = allowed.next in omega arith));
              begun = first.begun ∙ sym (names.begun p (let n = allowed.next in omega arith));
              waits = (λ w h. (let l = names.posted p (present at p) h in let n = allowed.next in omega arith), λ free. first.fresh.waits);
              applied = (
                λ s. absurd (let both = sym first.fresh.waits ∙ s in cc both),
                λ a.
                    absurd (let l = names.applied p a in let n = allowed.next in omega arith),
              );
              foot =
                  (let Q : Option Footprint → Type 0 = λ o. IfSome o (λ f. f ≡ foot_of first.subthread) in
                  subst Q (sym first.unknown) tt);
              known = (
                λ some. absurd (false≢true (sym (ap is_some first.unknown) ∙ some)),
                λ was. absurd (let l = names.taken p was.0 was.1 in let n = allowed.next in omega arith),
              );
            }

        pub issue-stand : EntriesStand run issued (entries ++ e ∷ [])
        issue-stand =
            record {
              row =
                  stands-push at.retired entries e stand.row
                  (let n = allowed.next in let f = stand.front in let q = first.position in omega arith);
              front = let l = length-append entries (e ∷ []) in let f = stand.front in omega arith;
              each = λ q x there. go q x (entry_at entries q) refl (sym (pushed entries e q) ∙ there);
            }
          where
            last : (q : ℕ) (x : Entry) (b : Bool) → nat_eq e.pos q ≡ b → cond b (Some e) None ≡ Some x → IsEntry run issued q x
            last q x false is found = absurd (cc found)
            last q x true is found =
                let same : e ≡ x = cc found in
                subst (IsEntry run issued q) same (subst (λ k. IsEntry run issued k e) (sym first.position ∙ eqb-true e.pos q is) new-entry)

            go : (q : ℕ) (x : Entry) (o : Option Entry) → entry_at entries q ≡ o
                → Rattle.std.specs.Option.option_or o (cond (nat_eq e.pos q) (Some e) None) ≡ Some x → IsEntry run issued q x
            go q x None is found = last q x (nat_eq e.pos q) refl found
            go q x (Some y) is found =
                carried at issued q x refl (λ h. h, λ h. h) refl (λ h. h, λ h. h) (stand.each q x (is ∙ found))

      module _ (p attempt : ℕ) (allowed : Allowed dependence faults at (event.Post p attempt)) where
        abbrev sent : Stage
        sent = happens dependence faults at (event.Post p attempt)

        -- the entry that goes out
        sent-entry : (y : Entry) → IsEntry run at p y → IsEntry run sent p (out_entry y)
        sent-entry y is =
            record {
              subthread = is.subthread;
              is_there = is.is_there;
              is_of = same-of is.subthread y (out_entry y) is.is_of refl refl refl refl refl;
              attempt = is.attempt;
              begun = is.begun;
              waits = (
                λ w. absurd (cc w),
                λ free. absurd (free
                    (subst (λ a. Contains (at.posted ++ (p, attempt) ∷ []) (p, a)) allowed.present
                    (Contains-push at.posted (p, attempt)))),
              );
              applied = (
                λ s. absurd (cc s),
                λ a. absurd (let both =
                    sym (is.waits.1 (λ h. allowed.unposted (subst (λ a. Contains at.posted (p, a)) (sym allowed.present) h)))
                    ∙ is.applied.1 a in cc both),
              );
              foot = is.foot;
              known = is.known;
            }

        pub post-stand : EntriesStand run sent (with_change_at p out_entry entries)
        post-stand =
            one-changed sent p out_entry (λ e. refl) refl refl sent-entry
            (λ q y other is.
            carried at sent q y refl (
              λ h. elim (Contains-push_cases at.posted (p, attempt) (q, present at q) h) [
                | inl old ↦ old
                | inr new ↦ (let k : p ≡ q = ap (λ x. x.0) new in absurd (eqb-false q p other (sym k)))
              ],
              λ h. Contains-append_left at.posted ((p, attempt) ∷ []) (q, present at q) h,
            )
            refl (λ h. h, λ h. h) is)

      module _ (p attempt : ℕ) (s : Subthread) (foot : Footprint) (there : slice_get run p ≡ Some s) (foot_is : foot ≡ foot_of s) where
        abbrev taken : Bool → Stage
        taken applies = happens dependence faults at (event.Take p attempt applies)

        -- what is known of the entry now is so
        now-known : (y : Entry) → (is : IsEntry run at p y) → foot ≡ foot_of is.subthread
        now-known y is = foot_is ∙ ap foot_of (let both = sym there ∙ is.is_there in let same : s ≡ is.subthread = cc both in same)

        was-taken : (applies : Bool) → WasTaken (taken applies) p
        was-taken applies = (attempt, Contains-push at.taken (p, attempt))

        learnt-entry : (y : Entry) → IsEntry run at p y → IsEntry run (taken false) p (known_entry foot y)
        learnt-entry y is =
            record {
              subthread = is.subthread;
              is_there = is.is_there;
              is_of = same-of is.subthread y (known_entry foot y) is.is_of refl refl refl refl refl;
              attempt = is.attempt;
              begun = is.begun;
              waits = is.waits;
              applied = is.applied;
              foot = now-known y is;
              known = (λ some. was-taken false, λ was. refl);
            }

        pub stale-stand : EntriesStand run (taken false) (with_change_at p (known_entry foot) entries)
        stale-stand =
            one-changed (taken false) p (known_entry foot) (λ e. refl) refl refl learnt-entry
            (λ q y other is.
            carried at (taken false) q y refl (λ h. h, λ h. h) refl (taken-too dependence at p attempt q false faults other) is)

        module _ (history : Option Effect) (lines : List (List ℤ))
            (allowed : Allowed dependence faults at (event.Take p attempt true)) where
          -- it is known what the entry's subthread touches, and its result is applied
          abbrev done : Entry → Entry
          done e = applied_entry history lines (known_entry foot e)

          taken-entry : (y : Entry) → IsEntry run at p y → IsEntry run (taken true) p (done y)
          taken-entry y is =
              record {
                subthread = is.subthread;
                is_there = is.is_there;
                is_of = same-of is.subthread y (done y) is.is_of refl refl refl refl refl;
                attempt = is.attempt;
                begun = is.begun;
                waits = (
                  λ w. absurd (cc w),
                  λ free. absurd (free
                      (subst (λ a. Contains at.posted (p, a)) (eqb-true attempt (present at p) (sym allowed.decided)) allowed.posted)),
                );
                applied = (λ s. ap (λ b. b || at.applied p) (eq-eqb p p refl), λ a. refl);
                foot = now-known y is;
                known = (λ some. was-taken true, λ was. refl);
              }

          done-stand : EntriesStand run (taken true) (with_change_at p done entries)
          done-stand =
              one-changed (taken true) p done (λ e. refl) refl refl taken-entry
              (λ q y other is.
              carried at (taken true) q y refl (λ h. h, λ h. h) (ap (λ b. b || at.applied q) other)
              (taken-too dependence at p attempt q true faults other) is)

          pub take-stand : EntriesStand run (taken true)
              (with_change_at p (applied_entry history lines) (with_change_at p (known_entry foot) entries))
          take-stand =
              subst (EntriesStand run (taken true)) (sym
              (change-twice p (known_entry foot) (applied_entry history lines) entries (λ e. refl))) done-stand

      -- a position that has no entry leaves the others as they are
      pub gone-stand : (p attempt : ℕ) → entry_at entries p ≡ None
          → EntriesStand run (happens dependence faults at (event.Take p attempt false)) entries
      gone-stand p attempt gone =
          record {
            row = stand.row;
            front = stand.front;
            each = λ q x there. go q x there (nat_eq q p) refl;
          }
        where
          go : (q : ℕ) (x : Entry) → entry_at entries q ≡ Some x → (b : Bool) → nat_eq q p ≡ b
              → IsEntry run (happens dependence faults at (event.Take p attempt false)) q x
          go q x there true same = absurd (let both = sym gone ∙ (ap (entry_at entries) (sym (eqb-true q p same)) ∙ there) in cc both)
          go q x there false other =
              carried at (happens dependence faults at (event.Take p attempt false)) q x refl (λ h. h, λ h. h) refl
              (taken-too dependence at p attempt q false faults other)
              (stand.each q x there)

      module _ (struck : ℕ) (stands : StageStands dependence faults at) where
        abbrev behind : Stage
        behind = restarted dependence at (Some struck)

        abbrev part : ℕ → Bool
        part q = is_member q (dependence.redo struck at.progress.front)

        abbrev made : Restart
        made = restart_of dependence at.progress struck

        raised : (q : ℕ) → part q ≡ true → (y : Entry) → IsEntry run at q y → IsEntry run behind q (raised_entry at.progress.front y)
        raised q redo y is =
            let attempt : present behind q ≡ present at q + 1 = rw redo at (attempt-push at.progress.made made q) in
            record {
              subthread = is.subthread;
              is_there = is.is_there;
              is_of = same-of is.subthread y (raised_entry at.progress.front y) is.is_of refl refl refl refl refl;
              attempt = let a = is.attempt in omega arith;
              begun = sym (rw redo at (begun-push at.progress.made made q));
              waits = (λ w posted. (let low = (stands.posted_low q (present behind q) posted).1 in omega arith), λ free. refl);
              applied = (λ wrong. absurd (cc wrong), λ a. absurd (false≢true (sym (ap (λ b. cond b false (at.applied q)) redo) ∙ a)));
              foot = is.foot;
              known = is.known;
            }

        kept : (q : ℕ) → part q ≡ false → (y : Entry) → IsEntry run at q y → IsEntry run behind q y
        kept q redo y is =
            let attempt : present behind q ≡ present at q = (let h = rw redo at (attempt-push at.progress.made made q) in omega arith) in
            let begun : begun_of behind.progress.made q ≡ begun_of at.progress.made q = rw redo at (begun-push at.progress.made made q) in
            record {
              subthread = is.subthread;
              is_there = is.is_there;
              is_of = is.is_of;
              attempt = is.attempt ∙ sym attempt;
              begun = is.begun ∙ sym begun;
              waits = (
                λ w h. is.waits.0 w (subst (λ a. Contains at.posted (q, a)) attempt h),
                λ free. is.waits.1 (λ h. free (subst (λ a. Contains at.posted (q, a)) (sym attempt) h)),
              );
              applied = (
                λ s. ap (λ b. cond b false (at.applied q)) redo
                    ∙ is.applied.0 s,
                λ a. is.applied.1 (sym (ap (λ b. cond b false (at.applied q)) redo) ∙ a),
              );
              foot = is.foot;
              known = is.known;
            }

        pub restart-stand : EntriesStand run behind (with_change part (raised_entry at.progress.front) entries)
        restart-stand =
            record {
              row = stands-changed at.retired part (raised_entry at.progress.front) entries (λ e. refl) stand.row;
              front = ap (λ n. at.retired + n) (same-length part (raised_entry at.progress.front) entries) ∙ stand.front;
              each = λ q x there. (let y = changed-there part (raised_entry at.progress.front) entries q x (λ e. refl) there in
                  subst (IsEntry run behind q) (sym y.2) (go q y.0 (part q) refl (stand.each q y.0 y.1)));
            }
          where
            go : (q : ℕ) (y : Entry) (b : Bool) → part q ≡ b → IsEntry run at q y
                → IsEntry run behind q (changed_where b (raised_entry at.progress.front) y)
            go q y true redo is = raised q redo y is
            go q y false redo is = kept q redo y is

        pub restart-event : (number : ℕ) → struck_next dependence faults at.progress ≡ Some struck
            → EntriesStand run (happens dependence faults at (event.Restart number))
            (with_change part (raised_entry at.progress.front) entries)
        restart-event number next =
            subst (λ o. EntriesStand run (restarted dependence at o) (with_change part (raised_entry at.progress.front) entries))
            (sym next) restart-stand

  pub retire-stand : (dependence : Dependence) (faults : List Fault) (at : Stage) (e : Entry) (entries : List Entry)
      → EntriesStand run at (e ∷ entries)
      → EntriesStand run (happens dependence faults at (event.Retire at.retired)) entries
  retire-stand dependence faults at e entries stand =
      record {
        row = subst (λ b. StandFrom b entries) (let s : suc at.retired ≡ at.retired + 1 = omega arith in s) stand.row.1;
        front = let f = stand.front in omega arith;
        each =
            λ q x there. carried at (happens dependence faults at (event.Retire at.retired)) q x refl (λ h. h, λ h. h) refl (λ h. h, λ h. h)
            (stand.each q x (rw (ne_eqb e.pos q (λ same.
            (let low = (from-first (suc at.retired) entries q x stand.row.1 there).0 in let first = stand.row.0 in omega arith)))
            there));
      }
