-- A lock is away exactly where an entry that is out holds it.
use Rattle.std.proofs.Common.{◌≡◌, ◌⊎◌, inl, inr, ℕ, ℤ, suc, ◌+◌, ◌<◌, Bool, true, false, cond, nat_eq, List, [], ◌∷◌, ◌++◌, length, get_or, Contains, Option, Some, None, refl, sym, ap, subst, ◌∙◌, arith, slice_get}
use Rattle.std.specs.Prelude.{All, option_map}
use Rattle.std.specs.List.{list_any}
use Rattle.std.specs.List.Sorted.{IsStrictlyIncreasing}
use Rattle.std.specs.Option.{option_or}
use Rattle.std.specs.Bool.{Decides}
use Rattle.std.proofs.lemmas.Bool.{cases_lt, eqb-true, eqb-false, eq-eqb, ne_eqb, false≢true, false_from_ne_true}
use Rattle.std.proofs.lemmas.List.Elements.{All-contains}
use Rattle.std.proofs.lemmas.Option.{slice_get_within, slice_get-get_or, get_or_from_slice_get}
use Rattle.gp_base.specs.declared.fault.Fault.{Fault}
use Rattle.gp_base.specs.declared.footprint.Loc.TheVariants as loc
use Rattle.task_ast.specs.meaning.Names.{locks_of, cells_in}
use Rattle.task_ast.specs.meaning.Plain.{Subthread}
use Rattle.task_ast.specs.Plain.{tree_machine}
use Rattle.task_ast.specs.Position.{before}
use Rattle.task_ast.specs.meaning.Table.{owned_from}
use Rattle.task_ast.proofs.Positions.{step_is}
use Rattle.lock_checker.proofs.LocksHeld.{before_stands}
use Rattle.dependence.specs.meaning.Conflict.{clash_in}
use Rattle.dependence.specs.Conflict.{Conflict}
use Rattle.dependence.specs.meaning.Dependents.{is_member}
use Rattle.dependence.specs.meaning.Restarts.{Dependence}
use Rattle.dependence.specs.meaning.Journal.{Stage}
use Rattle.dependence.specs.JournalTests.{same_attempt}
use Rattle.dependence.specs.Standing.{present, StageStands}
use Rattle.dependence.specs.Posting.{OutReady}
use Rattle.dependence.specs.RunBuffer.{IsOut}
use Rattle.dependence.specs.Runs.{lock_feet_of}
use Rattle.dependence.proofs.Auditing.{contains-decides}
use Rattle.task_ast.specs.declared.effect.Effect.{Effect}
use Rattle.dependence.proofs.DependentSets.{is_member-is}
use Rattle.record_store.specs.Lent.{marked}
use Rattle.reorder_list.specs.declared.entry.Entry.{Entry}
use Rattle.reorder_list.specs.declared.entry.State.{State}
use Rattle.reorder_list.specs.declared.entry.State.TheVariants.{Out, Applied, Waiting}
use Rattle.reorder_list.specs.Entries.{IsFresh, entry_at, with_change, with_change_at, out_entry, applied_entry, raised_entry}
use Rattle.reorder_list.specs.Runnable.{IsRunnable}
use Rattle.reorder_list.specs.Stages.{EntriesStand}
use Rattle.reorder_list.proofs.Changes.{KeepsPosition, changed_where, changed, pushed, from-first}
use Rattle.reorder_list.proofs.Staged.{changed-there}
use Rattle.subthread.proofs.HeldLocks.{owned_below, owned_increasing}
use Rattle.whole_run.specs.View.{Batch, program_in, run_in}
use Rattle.whole_run.specs.inner.Kept.{IsFit}
use Rattle.whole_run.specs.inner.Locks.{IsLent, LocksStand, HasLocks}
use Rattle.record_store.proofs.Marks.{marked-in, marked-out}
use Rattle.whole_run.proofs.UnderLocks.{writes-lock, one-lock, out-apart}

-- an attempt is in one state
out-applied : {s : State} → s ≡ Out → s ≡ Applied → ⊥
out-applied out applied = let both = sym out ∙ applied in cc both

out-waiting : {s : State} → s ≡ Out → s ≡ Waiting → ⊥
out-waiting out waits = let both = sym out ∙ waits in cc both

-- there is one entry at a position
one-entry : (entries : List Entry) (p q : ℕ) (x y : Entry) → entry_at entries p ≡ Some x → entry_at entries q ≡ Some y → q ≡ p → x ≡ y
one-entry entries p q x y x_there y_there same = let both = sym x_there ∙ (ap (entry_at entries) (sym same) ∙ y_there) in cc both

-- ---- the locks of the run exist

-- what a subthread holds is among the lock cells of the program
pub held-exist : (batch : Batch) → IsFit batch → (p : ℕ) (s : Subthread) → slice_get (run_in batch) p ≡ Some s → (l : ℕ) → Contains s.held l
    → l < cells_in (locks_of (program_in batch).heads)
held-exist batch fit p s there l holds =
    let step = step_is (tree_machine (program_in batch) batch.inputs batch.limits) (program_in batch) batch.inputs batch.limits p s there in
    let owners = (before (program_in batch) batch.inputs batch.limits (suc p)).table.owners in
    let all = (before_stands (program_in batch) batch.inputs batch.limits fit.suits.code.accepted (suc p)).owners in
    let below =
    All-contains (λ l. l < 0 + length owners) (owned_from 0 owners s.thread) l (owned_below 0 owners s.thread)
    (subst (λ held. Contains held l) step.held holds) in
    omega arith

-- and rises
pub held-rises : (batch : Batch) (p : ℕ) (s : Subthread) → slice_get (run_in batch) p ≡ Some s → IsStrictlyIncreasing s.held
held-rises batch p s there =
    subst IsStrictlyIncreasing
    (sym (step_is (tree_machine (program_in batch) batch.inputs batch.limits) (program_in batch) batch.inputs batch.limits p s there).held)
    (owned_increasing (before (program_in batch) batch.inputs batch.limits (suc p)).table.owners s.thread)

-- ---- entries that hold the same lock

module _ (run : List Subthread) (at : Stage) (entries : List Entry) (stand : EntriesStand run at entries) where
  entry-writes : (p l : ℕ) (x : Entry) → entry_at entries p ≡ Some x → Contains x.held l → Contains x.locks.writes (loc.Lock l)
  entry-writes p l x there holds =
      let is = stand.each p x there in
      subst (λ f. Contains f.writes (loc.Lock l)) (sym is.is_of.locks)
      (writes-lock is.subthread l (subst (λ held. Contains held l) is.is_of.held holds))

  both-write : (p q l : ℕ) (x y : Entry) → entry_at entries p ≡ Some x → entry_at entries q ≡ Some y → Contains x.held l → Contains y.held l
      → Conflict x.locks y.locks
  both-write p q l x y x_there y_there x_holds y_holds =
      inl (loc.Lock l, entry-writes p l x x_there x_holds, entry-writes q l y y_there y_holds)

  module _ {dependence : Dependence} (faults : List Fault) (stage : StageStands dependence faults at) where
    -- an entry that is out was posted
    pub out-posted : (q : ℕ) (y : Entry) → entry_at entries q ≡ Some y → y.state ≡ Out → Contains at.posted (q, present at q)
    out-posted q y there out = go (list_any (same_attempt (q, present at q)) at.posted) refl
      where
        decided : Decides (list_any (same_attempt (q, present at q)) at.posted) (Contains at.posted (q, present at q))
        decided = contains-decides (q, present at q) at.posted

        go : (b : Bool) → list_any (same_attempt (q, present at q)) at.posted ≡ b → Contains at.posted (q, present at q)
        go true e = decided.0 e
        go false e = absurd (out-waiting out ((stand.each q y there).waits.1 (λ h. false≢true (sym e ∙ decided.1 h))))

    -- and not taken
    pub out-untaken : (q : ℕ) (y : Entry) → entry_at entries q ≡ Some y → y.state ≡ Out → ¬ Contains at.taken (q, present at q)
    out-untaken q y there out taken = out-applied out ((stand.each q y there).applied.1 (stage.taken_applied q taken))

    -- so it is an attempt that is out
    pub out-is : (q : ℕ) (y : Entry) → entry_at entries q ≡ Some y → y.state ≡ Out → IsOut at q (present at q)
    out-is q y there out = record { posted = out-posted q y there out; untaken = out-untaken q y there out; present = refl }

    -- where all that is in conflict by locks with what is out is applied before it
    module _ (ready : OutReady (clash_in (lock_feet_of run)) at) where
      -- of two entries that are out none holds a lock of the other
      out-alone : (p q l : ℕ) (x y : Entry) → entry_at entries p ≡ Some x → entry_at entries q ≡ Some y → x.state ≡ Out → y.state ≡ Out
          → Contains x.held l → Contains y.held l → p ≡ q
      out-alone p q l x y x_there y_there x_out y_out x_holds y_holds =
          let x_is = stand.each p x x_there in
          let y_is = stand.each q y y_there in
          out-apart run faults at stage ready p q (present at p) (present at q) l x_is.subthread y_is.subthread (out-is p x x_there x_out)
          (out-is q y y_there y_out) x_is.is_there y_is.is_there
          (subst (λ held. Contains held l) x_is.is_of.held x_holds) (subst (λ held. Contains held l) y_is.is_of.held y_holds)

      -- what a later entry that is out holds, an earlier one holds only where it is applied
      earlier-applied : (p q l : ℕ) (x y : Entry) → p < q → entry_at entries p ≡ Some x → entry_at entries q ≡ Some y → y.state ≡ Out
          → Contains x.held l → Contains y.held l → x.state ≡ Applied
      earlier-applied p q l x y less x_there y_there out x_holds y_holds =
          let x_is = stand.each p x x_there in
          let y_is = stand.each q y y_there in
          x_is.applied.1
          (ready q (present at q) p (out-is q y y_there out) less
          (one-lock run p q l x_is.subthread y_is.subthread x_is.is_there y_is.is_there
          (subst (λ held. Contains held l) x_is.is_of.held x_holds) (subst (λ held. Contains held l) y_is.is_of.held y_holds)))

      -- what an entry that may be posted holds, no entry that is out holds
      none-out : (p : ℕ) (runnable : IsRunnable entries p) (q l : ℕ) (y : Entry) → Contains runnable.entry.held l
          → entry_at entries q ≡ Some y → y.state ≡ Out → Contains y.held l → ⊥
      none-out p runnable q l y holds there out y_holds = elim (cases_lt q p) [
        | inl less ↦
            out-applied out (runnable.ready q y less there (both-write q p l y runnable.entry there runnable.is_there y_holds holds))
        | inr most ↦ elim (cases_lt p q) [
          | inl less ↦
              (let applied = earlier-applied p q l runnable.entry y less runnable.is_there there out holds y_holds in
              let both = sym applied ∙ runnable.waits in cc both)
          | inr least ↦
              out-waiting out
              (subst (λ (e : Entry). e.state ≡ Waiting) (one-entry entries p q runnable.entry y runnable.is_there there (omega arith))
              runnable.waits)
        ]
      ]

      module _ (away : List Bool) (locks : LocksStand away entries) where
        -- the locks of an entry that may be posted are at home
        pub home-there : (p : ℕ) (runnable : IsRunnable entries p) → HasLocks away runnable.entry → (l : ℕ) → Contains runnable.entry.held l
            → slice_get away l ≡ Some false
        home-there p runnable exist l holds =
            slice_get-get_or away l false (exist l holds)
            ∙ ap Some (go (get_or away l false) (slice_get-get_or away l false (exist l holds)))
          where
            go : (b : Bool) → slice_get away l ≡ Some b → b ≡ false
            go false is = refl
            go true is =
                absurd
                (let lent = (locks l).0 is in none-out p runnable lent.position l lent.entry holds lent.there lent.out lent.holds)

-- the locks of an entry that is out are away
pub away-there : (entries : List Entry) (away : List Bool) → LocksStand away entries → (p : ℕ) (e : Entry) → entry_at entries p ≡ Some e
    → e.state ≡ Out
    → (l : ℕ) → Contains e.held l → slice_get away l ≡ Some true
away-there entries away locks p e there out l holds =
    (locks l).1 (record { position = p; entry = e; there = there; out = out; holds = holds })

-- ---- changed entries

module _ (test : ℕ → Bool) (change : Entry → Entry) (entries : List Entry) (keeps : KeepsPosition change) (l : ℕ) where
  -- what an entry lends that isn't changed is lent after the change
  lent-still : (lent : IsLent entries l) → test lent.position ≡ false → IsLent (with_change test change entries) l
  lent-still lent is =
      record {
        position = lent.position;
        entry = lent.entry;
        there = changed test change entries lent.position keeps ∙ (ap (option_map (changed_where (test lent.position) change)) lent.there
            ∙ ap (λ b. Some (changed_where b change lent.entry)) is);
        out = lent.out;
        holds = lent.holds;
      }

  -- what is lent after it was lent before, or by an entry that was changed
  abbrev Lends : ℕ → Entry → Type 0
  Lends p e =
      ((y : Entry) × (entry_at entries p ≡ Some y) × (test p ≡ true) × (e ≡ change y))
      ⊎ ((old : IsLent entries l) × (old.position ≡ p) × (test p ≡ false))

  lent-before : (lent : IsLent (with_change test change entries) l) → Lends lent.position lent.entry
  lent-before lent = go (changed-there test change entries lent.position lent.entry keeps lent.there) (test lent.position) refl
    where
      go : (y : Entry) × (entry_at entries lent.position ≡ Some y) × (lent.entry ≡ changed_where (test lent.position) change y) → (b : Bool)
          → test lent.position ≡ b
          → Lends lent.position lent.entry
      go y true is = inl (y.0, y.1, is, y.2 ∙ ap (λ b. changed_where b change y.0) is)
      go y false is =
          let same : lent.entry ≡ y.0 = y.2 ∙ ap (λ b. changed_where b change y.0) is in
          inr (
            record {
              position = lent.position;
              entry = y.0;
              there = y.1;
              out = ap (λ (x : Entry). x.state) (sym same) ∙ lent.out;
              holds = subst (λ (x : Entry). Contains x.held l) same lent.holds;
            },
            refl,
            is,
          )

-- ---- each event

-- a post sends the locks of its entry away
pub locks-sent : (entries : List Entry) (away : List Bool) (p : ℕ) (e : Entry) → LocksStand away entries → entry_at entries p ≡ Some e
    → e.state ≡ Waiting → HasLocks away e
    → LocksStand (marked e.held true away) (with_change_at p out_entry entries)
locks-sent entries away p e locks there waits exist l = (to, from)
  where
    test : ℕ → Bool
    test q = nat_eq q p

    to : slice_get (marked e.held true away) l ≡ Some true → IsLent (with_change_at p out_entry entries) l
    to is = go (is_member l e.held) refl
      where
        go : (b : Bool) → is_member l e.held ≡ b → IsLent (with_change_at p out_entry entries) l
        go true among =
            record {
              position = p;
              entry = out_entry e;
              there =
                  changed test out_entry entries p (λ x. refl)
                  ∙ (ap (option_map (changed_where (nat_eq p p) out_entry)) there
                  ∙ ap (λ b. Some (changed_where b out_entry e)) (eq-eqb p p refl));
              out = refl;
              holds = (is_member-is l e.held).0 among;
            }
        go false lacks =
            let lent = (locks l).0 (sym (marked-out e.held true away l lacks) ∙ is) in
            lent-still test out_entry entries (λ x. refl) l lent
            (ne_eqb lent.position p
            (λ same. out-waiting lent.out
            (subst (λ (x : Entry). x.state ≡ Waiting) (one-entry entries p lent.position e lent.entry there lent.there same) waits)))

    from : IsLent (with_change_at p out_entry entries) l → slice_get (marked e.held true away) l ≡ Some true
    from lent = go (is_member l e.held) refl
      where
        go : (b : Bool) → is_member l e.held ≡ b → slice_get (marked e.held true away) l ≡ Some true
        go true among = let holds = (is_member-is l e.held).0 among in marked-in e.held true away l (exist l holds) holds
        go false lacks = elim (lent-before test out_entry entries (λ x. refl) l lent) [
          | inl y ↦
              absurd (let same = one-entry entries p lent.position e y.0 there y.1 (eqb-true lent.position p y.2) in
              let held : lent.entry.held ≡ e.held = ap (λ (x : Entry). x.held) y.3 ∙ ap (λ (x : Entry). x.held) (sym same) in
              false≢true (sym lacks ∙ (is_member-is l e.held).1 (subst (λ held. Contains held l) held lent.holds)))
          | inr old ↦ marked-out e.held true away l lacks ∙ (locks l).1 old.0
        ]

-- a result of the present attempt brings them home
pub locks-home : {dependence : Dependence} (run : List Subthread) (faults : List Fault) (at : Stage) (entries : List Entry)
    (away : List Bool) (p : ℕ) (e : Entry) (history : Option Effect) (lines : List (List ℤ))
    → StageStands dependence faults at → OutReady (clash_in (lock_feet_of run)) at → EntriesStand run at entries → LocksStand away entries
    → entry_at entries p ≡ Some e → e.state ≡ Out
    → LocksStand (marked e.held false away) (with_change_at p (applied_entry history lines) entries)
locks-home run faults at entries away p e history lines stage ready stand locks there out l = (to, from)
  where
    test : ℕ → Bool
    test q = nat_eq q p

    exist : Contains e.held l → l < length away
    exist holds = slice_get_within away l true (away-there entries away locks p e there out l holds)

    to : slice_get (marked e.held false away) l ≡ Some true → IsLent (with_change_at p (applied_entry history lines) entries) l
    to is = go (is_member l e.held) refl
      where
        go : (b : Bool) → is_member l e.held ≡ b → IsLent (with_change_at p (applied_entry history lines) entries) l
        go true among =
            absurd
            (let holds = (is_member-is l e.held).0 among in
            let both = sym (marked-in e.held false away l (exist holds) holds) ∙ is in
            cc both)
        go false lacks =
            let lent = (locks l).0 (sym (marked-out e.held false away l lacks) ∙ is) in
            lent-still test (applied_entry history lines) entries (λ x. refl) l lent
            (ne_eqb lent.position p (λ same. false≢true (sym lacks
            ∙ (is_member-is l e.held).1
            (subst (λ (x : Entry). Contains x.held l) (sym (one-entry entries p lent.position e lent.entry there lent.there same))
            lent.holds))))

    from : IsLent (with_change_at p (applied_entry history lines) entries) l → slice_get (marked e.held false away) l ≡ Some true
    from lent = elim (lent-before test (applied_entry history lines) entries (λ x. refl) l lent) [
      | inl y ↦ absurd (out-applied lent.out (ap (λ (x : Entry). x.state) y.3))
      | inr old ↦ marked-out e.held false away l (lacks old.0 (eqb-false old.0.position p (ap test old.1 ∙ old.2))) ∙ (locks l).1 old.0
    ]
      where
        lacks : (old : IsLent entries l) → (old.position ≡ p → ⊥) → is_member l e.held ≡ false
        lacks old apart = false_from_ne_true (is_member l e.held)
            (λ among. apart
            (out-alone run at entries stand faults stage ready old.position p l old.entry e old.there there old.out out old.holds
            ((is_member-is l e.held).0 among)))

-- a change that leaves states and locks as they are lends what was lent
pub locks-kept : (test : ℕ → Bool) (change : Entry → Entry) (entries : List Entry) (away : List Bool) → KeepsPosition change
    → ((x : Entry) → (change x).state ≡ x.state) → ((x : Entry) → (change x).held ≡ x.held) → LocksStand away entries
    → LocksStand away (with_change test change entries)
locks-kept test change entries away keeps states held locks l = (to, from)
  where
    state : (b : Bool) (x : Entry) → (changed_where b change x).state ≡ x.state
    state true x = states x
    state false x = refl

    holds : (b : Bool) (x : Entry) → (changed_where b change x).held ≡ x.held
    holds true x = held x
    holds false x = refl

    to : slice_get away l ≡ Some true → IsLent (with_change test change entries) l
    to is =
        let lent = (locks l).0 is in
        record {
          position = lent.position;
          entry = changed_where (test lent.position) change lent.entry;
          there = changed test change entries lent.position keeps ∙ ap (option_map (changed_where (test lent.position) change)) lent.there;
          out = state (test lent.position) lent.entry ∙ lent.out;
          holds = subst (λ held. Contains held l) (sym (holds (test lent.position) lent.entry)) lent.holds;
        }

    from : IsLent (with_change test change entries) l → slice_get away l ≡ Some true
    from lent =
        let y = changed-there test change entries lent.position lent.entry keeps lent.there in
        (locks l).1 (record {
          position = lent.position;
          entry = y.0;
          there = y.1;
          out = sym (state (test lent.position) y.0) ∙ (ap (λ (x : Entry). x.state) (sym y.2) ∙ lent.out);
          holds = subst (λ held. Contains held l) (ap (λ (x : Entry). x.held) y.2 ∙ holds (test lent.position) y.0) lent.holds;
        })

-- a restart, which finds all at home, leaves them there
pub locks-raised : (entries : List Entry) (away : List Bool) (part : ℕ → Bool) (front : ℕ) → LocksStand away entries
    → All (λ b. b ≡ false) away
    → LocksStand away (with_change part (raised_entry front) entries)
locks-raised entries away part front locks home l = (to, from)
  where
    to : slice_get away l ≡ Some true → IsLent (with_change part (raised_entry front) entries) l
    to is =
        absurd (let first = home l true (slice_get_within away l true is) in
        false≢true (sym first ∙ get_or_from_slice_get away l true true is))

    from : IsLent (with_change part (raised_entry front) entries) l → slice_get away l ≡ Some true
    from lent = elim (lent-before part (raised_entry front) entries (λ x. refl) l lent) [
      | inl y ↦ absurd (out-waiting lent.out (ap (λ (x : Entry). x.state) y.3))
      | inr old ↦ (locks l).1 old.0
    ]

-- the oldest entry retires, which is applied
pub locks-retired : (run : List Subthread) (at : Stage) (e : Entry) (entries : List Entry) (away : List Bool)
    → EntriesStand run at (e ∷ entries) → LocksStand away (e ∷ entries) → e.state ≡ Applied
    → LocksStand away entries
locks-retired run at e entries away stand locks applied l = (to, from)
  where
    to : slice_get away l ≡ Some true → IsLent entries l
    to is = go (nat_eq e.pos lent.position) lent.there
      where
        lent : IsLent (e ∷ entries) l
        lent = (locks l).0 is

        go : (t : Bool) → cond t (Some e) (entry_at entries lent.position) ≡ Some lent.entry → IsLent entries l
        go true found =
            absurd
            (let same : e ≡ lent.entry = cc found in out-applied lent.out (subst (λ (x : Entry). x.state ≡ Applied) same applied))
        go false found = record { position = lent.position; entry = lent.entry; there = found; out = lent.out; holds = lent.holds }

    from : IsLent entries l → slice_get away l ≡ Some true
    from lent =
        (locks l).1 (record {
          position = lent.position;
          entry = lent.entry;
          there = go (nat_eq e.pos lent.position) refl;
          out = lent.out;
          holds = lent.holds;
        })
      where
        go : (t : Bool) → nat_eq e.pos lent.position ≡ t → cond t (Some e) (entry_at entries lent.position) ≡ Some lent.entry
        go true same =
            absurd (let low = (from-first (suc at.retired) entries lent.position lent.entry stand.row.1 lent.there).0 in
            let first = stand.row.0 in
            let here = eqb-true e.pos lent.position same in omega arith)
        go false differ = lent.there

-- the next entry is added
pub locks-pushed : (entries : List Entry) (away : List Bool) (e : Entry) → LocksStand away entries → IsFresh e
    → LocksStand away (entries ++ e ∷ [])
locks-pushed entries away e locks fresh l = (to, from)
  where
    to : slice_get away l ≡ Some true → IsLent (entries ++ e ∷ []) l
    to is =
        let lent = (locks l).0 is in
        record {
          position = lent.position;
          entry = lent.entry;
          there = pushed entries e lent.position ∙ ap (λ o. option_or o (cond (nat_eq e.pos lent.position) (Some e) None)) lent.there;
          out = lent.out;
          holds = lent.holds;
        }

    from : IsLent (entries ++ e ∷ []) l → slice_get away l ≡ Some true
    from lent = go (entry_at entries lent.position) refl (sym (pushed entries e lent.position) ∙ lent.there)
      where
        last : (t : Bool) → cond t (Some e) None ≡ Some lent.entry → ⊥
        last true found =
            let same : e ≡ lent.entry = cc found in
            out-waiting lent.out (subst (λ (x : Entry). x.state ≡ Waiting) same fresh.waits)
        last false found = cc found

        go : (o : Option Entry) → entry_at entries lent.position ≡ o
            → option_or o (cond (nat_eq e.pos lent.position) (Some e) None) ≡ Some lent.entry → slice_get away l ≡ Some true
        go None is found = absurd (last (nat_eq e.pos lent.position) found)
        go (Some y) is found =
            (locks l).1
            (record { position = lent.position; entry = lent.entry; there = is ∙ found; out = lent.out; holds = lent.holds })
