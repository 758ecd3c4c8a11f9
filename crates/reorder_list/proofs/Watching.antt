-- What holds up what waits, and the mark before which each entry is applied.
--
-- A mark is a position with a test that answers one thing of each entry before it (`Below`), so what is shown of marks
-- is shown once for any test: under a change, with one more entry, without the first, and past one more place. An entry
-- that waits outside of what has to be looked at again is in the watch of one that holds it up. Where that one is
-- applied, what has to be looked at grows by its watch.
use Rattle.std.proofs.Common.{◌≡◌, ◌⊎◌, ◌↔◌, inl, inr, ℕ, zero, suc, ◌+◌, ◌<◌, ◌≤◌, min, Bool, true, false, cond, nat_eq, not, IsTrue, List, [], ◌∷◌, ◌++◌, length, length-append, drop, get_or, slice_get, slice_set, Option, Some, None, IfSome, IfNone, refl, sym, ap, subst, ◌∙◌, arith}
use Rattle.std.specs.Prelude.{is_some, unwrap_or}
use Rattle.std.specs.Option.{option_map, option_or}
use Rattle.std.proofs.lemmas.Bool.{false≢true, both_ways, ne_eqb, eq-eqb, eqb-true, cases_eq, cases_lt}
use Rattle.task_ast.proofs.IssuedTables.{get_last}
use Rattle.dependence.specs.Conflict.{Conflict}
use Rattle.reorder_list.specs.declared.entry.Entry.{Entry}
use Rattle.reorder_list.specs.declared.entry.State.{State}
use Rattle.reorder_list.specs.declared.entry.State.TheVariants.{Waiting}
use Rattle.reorder_list.specs.declared.marks.Marks.{Marks}
use Rattle.reorder_list.specs.declared.marks.Watch.{Watch}
use Rattle.reorder_list.specs.declared.touched.Touched.{Touched}
use Rattle.reorder_list.specs.Entries.{StandFrom, first_position, IsInRow, ComesNext, entry_at, is_waiting, is_applied, out_entry, with_change}
use Rattle.reorder_list.specs.Places.{IsPlaceOf, IsKept}
use Rattle.reorder_list.specs.Runnable.{AllLetPass, IsRunnable, IsFirstRunnable, NoneRunnable}
use Rattle.reorder_list.specs.Touching.{IsMarked, KeepsMarks, IsClearPast}
use Rattle.reorder_list.specs.Watched.{HoldsUp, IsReady, watch_at, IsHeldUp, IsLooked, AreLooked, AreAsleep, IsWider, AreWider, Below, AllApplied, AreMarks, IsClear, AreClear, AllTouched, waking, narrowed, passed, past, unknown_in, IsUpheld}
use Rattle.reorder_list.proofs.Rows.{before-first, read-at, next-is, row-push}
use Rattle.reorder_list.proofs.Readiness.{one-entry, waits-is, applied-is, read-there, read-position}
use Rattle.reorder_list.proofs.Changes.{KeepsPosition, changed_where, changed, same-position, pushed, from-first, same-length}
use Rattle.reorder_list.proofs.Staged.{changed-there}
use Rattle.reorder_list.proofs.Kept.{kept-rest}
use Rattle.reorder_list.proofs.Unknown.{one_in, unknown-first, KeepsKnown, unknown-same}

-- a change keeps the footprint by locks of each entry
abbrev pub KeepsLocks : (Entry → Entry) → Type 0
KeepsLocks change = (e : Entry) → (change e).locks ≡ e.locks

-- a change keeps what a test answers of the entries before the position
abbrev pub KeepsBelow : (State → Bool) → Bool → (ℕ → Bool) → (Entry → Entry) → List Entry → ℕ → Type 0
KeepsBelow says answer test change entries below =
    (q : ℕ) → q < below → test q ≡ true → (e : Entry) → entry_at entries q ≡ Some e → says e.state ≡ answer → says (change e).state ≡ answer

-- what waits after a change, and need not be looked at, waited before
abbrev pub KeepsWaiting : (ℕ → Bool) → (Entry → Entry) → List Entry → (fresh : ℕ) → Type 0
KeepsWaiting test change entries fresh =
    (p : ℕ) (e : Entry) → test p ≡ true → entry_at entries p ≡ Some e → (change e).state ≡ Waiting → p < fresh → e.state ≡ Waiting

-- what is applied by a change has its watch looked at
abbrev pub KeepsHolding : (ℕ → Bool) → (Entry → Entry) → List Entry → List Watch → (low last : ℕ) → Type 0
KeepsHolding test change entries watches low last =
    (q : ℕ) (x : Entry) (w : Watch) → test q ≡ true → entry_at entries q ≡ Some x → watch_at entries watches q ≡ Some w
    → is_applied x.state ≡ false
    → (is_applied (change x).state ≡ false) ⊎ ((low ≤ w.from) × (w.to ≤ last))

-- the watches

pub watch-changed : (test : ℕ → Bool) (change : Entry → Entry) → KeepsPosition change → (entries : List Entry) (watches : List Watch) (q : ℕ)
    → watch_at (with_change test change entries) watches q ≡ watch_at entries watches q
watch-changed test change keeps [] watches q = refl
watch-changed test change keeps (e ∷ entries) [] q = refl
watch-changed test change keeps (e ∷ entries) (w ∷ watches) q =
    ap (λ k. cond (nat_eq k q) (Some w) (watch_at (with_change test change entries) watches q))
    (same-position (test e.pos) change e keeps)
    ∙ ap (λ rest. cond (nat_eq e.pos q) (Some w) rest) (watch-changed test change keeps entries watches q)

pub watch-pushed : (entries : List Entry) (watches : List Watch) (new : Entry) (v : Watch) (q : ℕ) (w : Watch)
    → watch_at entries watches q ≡ Some w → watch_at (entries ++ new ∷ []) (watches ++ v ∷ []) q ≡ Some w
watch-pushed [] watches new v q w there = absurd (cc there)
watch-pushed (e ∷ entries) [] new v q w there = absurd (cc there)
watch-pushed (e ∷ entries) (u ∷ watches) new v q w there = go (watch-pushed entries watches new v q w) (nat_eq e.pos q) there
  where
    go : (watch_at entries watches q ≡ Some w → watch_at (entries ++ new ∷ []) (watches ++ v ∷ []) q ≡ Some w) → (b : Bool)
        → cond b (Some u) (watch_at entries watches q) ≡ Some w
        → cond b (Some u) (watch_at (entries ++ new ∷ []) (watches ++ v ∷ []) q) ≡ Some w
    go rest true found = found
    go rest false found = rest found

pub watch-rest : (first : Entry) (entries : List Entry) (watches : List Watch) (q : ℕ) (w : Watch) → (first.pos ≡ q → ⊥)
    → watch_at (first ∷ entries) watches q ≡ Some w → watch_at entries (drop 1 watches) q ≡ Some w
watch-rest first entries [] q w other there = absurd (cc there)
watch-rest first entries (v ∷ watches) q w other there = go (nat_eq first.pos q) (ne_eqb first.pos q other) there
  where
    go : (b : Bool) → b ≡ false → cond b (Some v) (watch_at entries watches q) ≡ Some w → watch_at entries watches q ≡ Some w
    go true is found = absurd (false≢true (sym is))
    go false is found = found

-- the watch at the place of a position is beside its entry
pub watch-there : (b : ℕ) (entries : List Entry) (watches : List Watch) (q k : ℕ) (w : Watch) → StandFrom b entries → k < length entries
    → q ≡ b + k → slice_get watches k ≡ Some w → watch_at entries watches q ≡ Some w
watch-there b [] watches q k w stands l is there = absurd (omega arith)
watch-there b (e ∷ entries) [] q k w stands l is there = absurd (cc there)
watch-there b (e ∷ entries) (u ∷ watches) q zero w stands l is there =
    rw (eq-eqb e.pos q (let first = stands.0 in omega arith)) there
watch-there b (e ∷ entries) (u ∷ watches) q (suc k) w stands l is there =
    rw (ne_eqb e.pos q (λ same. let first = stands.0 in omega arith))
    (watch-there (suc b) entries watches q k w stands.1 (omega arith) (omega arith) there)

pub is-wider : (w : Watch) → IsWider w w
is-wider w = record { from = omega arith; to = omega arith; until = omega arith }

wider-at : (entries : List Entry) (watches : List Watch) (k q : ℕ) (old new w : Watch) → slice_get watches k ≡ Some old → IsWider old new
    → watch_at entries watches q ≡ Some w
    → (v : Watch) × (watch_at entries (slice_set watches k new) q ≡ Some v) × IsWider w v
wider-at [] watches k q old new w there wider is = absurd (cc is)
wider-at (e ∷ entries) [] k q old new w there wider is = absurd (cc is)
wider-at (e ∷ entries) (u ∷ watches) zero q old new w there wider is = go (nat_eq e.pos q) is
  where
    go : (b : Bool) → cond b (Some u) (watch_at entries watches q) ≡ Some w
        → (v : Watch) × (cond b (Some new) (watch_at entries watches q) ≡ Some v) × IsWider w v
    go true found =
        (new, refl, subst (λ x. IsWider x new) (let first : u ≡ old = cc there in let here : u ≡ w = cc found in sym first ∙ here) wider)
    go false found = (w, found, is-wider w)
wider-at (e ∷ entries) (u ∷ watches) (suc k) q old new w there wider is = go (wider-at entries watches k q old new w there wider) (nat_eq e.pos q) is
  where
    go : (watch_at entries watches q ≡ Some w → (v : Watch) × (watch_at entries (slice_set watches k new) q ≡ Some v) × IsWider w v)
        → (b : Bool) → cond b (Some u) (watch_at entries watches q) ≡ Some w
        → (v : Watch) × (cond b (Some u) (watch_at entries (slice_set watches k new) q) ≡ Some v) × IsWider w v
    go rest true found = (w, found, is-wider w)
    go rest false found = rest found

pub set-length : (watches : List Watch) (k : ℕ) (new : Watch) → length (slice_set watches k new) ≡ length watches
set-length [] k new = refl
set-length (w ∷ watches) zero new = refl
set-length (w ∷ watches) (suc k) new = ap suc (set-length watches k new)

pub set-there : (watches : List Watch) (k : ℕ) (new : Watch) → k < length watches → slice_get (slice_set watches k new) k ≡ Some new
set-there [] k new l = absurd (omega arith)
set-there (w ∷ watches) zero new l = refl
set-there (w ∷ watches) (suc k) new l = set-there watches k new (omega arith)

pub pushed-length : (entries : List Entry) (watches : List Watch) (e : Entry) (w : Watch) → length watches ≡ length entries
    → length (watches ++ w ∷ []) ≡ length (entries ++ e ∷ [])
pushed-length [] [] e w same = refl
pushed-length [] (v ∷ watches) e w same = absurd (omega arith)
pushed-length (x ∷ entries) [] e w same = absurd (omega arith)
pushed-length (x ∷ entries) (v ∷ watches) e w same =
    ap suc (pushed-length entries watches e w (let more : suc (length watches) ≡ suc (length entries) = same in omega arith))

-- a watch that is wider takes the place of one
pub wider-set : (watches : List Watch) (k : ℕ) (old new : Watch) → slice_get watches k ≡ Some old → IsWider old new
    → AreWider watches (slice_set watches k new)
wider-set watches k old new there wider =
    record { many = set-length watches k new; each = λ entries q w is. wider-at entries watches k q old new w there wider is }

pub wider-same : (watches : List Watch) → AreWider watches watches
wider-same watches = record { many = refl; each = λ entries q w is. (w, is, is-wider w) }

pub wider-then : (a b c : List Watch) → AreWider a b → AreWider b c → AreWider a c
wider-then a b c first second =
    record {
      many = second.many ∙ first.many;
      each =
          λ entries q w is. (let v = first.each entries q w is in let u = second.each entries q v.0 v.1 in (
            u.0,
            u.1,
            record {
              from = let x = v.2.from in let y = u.2.from in omega arith;
              to = let x = v.2.to in let y = u.2.to in omega arith;
              until = let x = v.2.until in let y = u.2.until in omega arith;
            },
          ));
    }

-- one that is held up stays so where watches are wider
pub held-wider : (entries : List Entry) (watches wider : List Watch) (p : ℕ) → AreWider watches wider → IsHeldUp entries watches p
    → IsHeldUp entries wider p
held-wider entries watches wider p more held =
    let v = more.each entries held.by held.watch held.is_there in
    record {
      by = held.by;
      holds = held.holds;
      watch = v.0;
      is_there = v.1;
      from = let x = v.2.from in let y = held.from in omega arith;
      to = let x = v.2.to in let y = held.to in omega arith;
    }

pub looked-wider : (entries : List Entry) (watches wider : List Watch) (q : ℕ) → AreWider watches wider → IsLooked entries watches q
    → IsLooked entries wider q
looked-wider entries watches wider q more looked e there waits = held-wider entries watches wider q more (looked e there waits)

pub asleep-wider : (entries : List Entry) (watches wider : List Watch) (fresh low last : ℕ) → AreWider watches wider
    → AreAsleep entries watches fresh low last → AreAsleep entries wider fresh low last
asleep-wider entries watches wider fresh low last more asleep q l outside =
    looked-wider entries watches wider q more (asleep q l outside)

pub clear-wider : (entries : List Entry) (watches wider : List Watch) → AreWider watches wider → AreClear entries watches
    → AreClear entries wider
clear-wider entries watches wider more clear p e there =
    let w = clear p e there in
    let v = more.each entries p w.0 w.1 in (
      v.0,
      v.1,
      λ q earlier later after before at here.
          w.2 q earlier later (let low = v.2.until in omega arith) before at here,
    )

-- none is in conflict with the entry at a place after the position that the watch there tells
pub clear-at : (entries : List Entry) (watches : List Watch) (place : ℕ) (w : Watch) → IsInRow entries → place < length entries
    → place < length watches → w ≡ get_or watches place w → AreClear entries watches
    → IsClear entries w.until (first_position entries + place)
clear-at entries watches place w row l within read clear q earlier later after before at here =
    let mine =
    watch-there (first_position entries) entries watches (first_position entries + place) place w row l refl
    (read-at watches place w within read) in
    let theirs = clear (first_position entries + place) later here in
    let both = sym mine ∙ theirs.1 in
    let same : w ≡ theirs.0 = cc both in
    let until = ap (λ (v : Watch). v.until) same in
    theirs.2 q earlier later (omega arith) before at here

-- changes

module _ (test : ℕ → Bool) (change : Entry → Entry) (keeps : KeepsPosition change) (locks : KeepsLocks change) (entries : List Entry) where
  same-locks : (b : Bool) (e : Entry) → (changed_where b change e).locks ≡ e.locks
  same-locks true e = locks e
  same-locks false e = refl

  -- one that holds up another does so after a change, if it still is not applied
  holds-changed : (q p : ℕ) (held : HoldsUp entries q p) → is_applied (changed_where (test q) change held.entry).state ≡ false
      → HoldsUp (with_change test change entries) q p
  holds-changed q p held still =
      record {
        before = held.before;
        entry = changed_where (test q) change held.entry;
        is_there =
            changed test change entries q keeps
            ∙ ap (λ o. Rattle.std.specs.Prelude.option_map (changed_where (test q) change) o) held.is_there;
        unapplied = still;
        clash =
            λ f there. (let y = changed-there test change entries p f keeps there in
            let same : f.locks ≡ y.0.locks = ap (λ (z : Entry). z.locks) y.2 ∙ same-locks (test p) y.0 in
            subst (λ l. Conflict l f.locks) (sym (same-locks (test q) held.entry))
            (subst (Conflict held.entry.locks) (sym same) (held.clash y.0 y.1)));
      }

  module _ (watches : List Watch) (fresh low last fresh' low' last' : ℕ) (waiting : KeepsWaiting test change entries fresh')
      (holding : KeepsHolding test change entries watches low' last') (sooner : fresh' ≤ fresh) (less : low' ≤ low) (more : last ≤ last') where
    waited : (p : ℕ) (y : Entry) (b : Bool) → test p ≡ b → entry_at entries p ≡ Some y → (changed_where b change y).state ≡ Waiting
        → p < fresh' → y.state ≡ Waiting
    waited p y true is there waits l = waiting p y is there waits l
    waited p y false is there waits l = waits

    outer : (p : ℕ) → (p < low') ⊎ (last' < p) → (p < low) ⊎ (last < p)
    outer p (inl before) = inl (omega arith)
    outer p (inr after) = inr (omega arith)

    within : (p : ℕ) (w : Watch) → (p < low') ⊎ (last' < p) → w.from ≤ p → p ≤ w.to → (low' ≤ w.from) × (w.to ≤ last') → ⊥
    within p w (inl before) from to inside = let a = inside.0 in omega arith
    within p w (inr after) from to inside = let a = inside.1 in omega arith

    still : (p : ℕ) → (p < low') ⊎ (last' < p) → (held : IsHeldUp entries watches p) → (b : Bool) → test held.by ≡ b
        → is_applied (changed_where b change held.holds.entry).state ≡ false
    still p outside held false is = held.holds.unapplied
    still p outside held true is =
        elim (holding held.by held.holds.entry held.watch is held.holds.is_there held.is_there held.holds.unapplied) [
          | inl unapplied ↦ unapplied
          | inr inside ↦ absurd (within p held.watch outside held.from held.to inside)
        ]

    pub asleep-changed : AreAsleep entries watches fresh low last → AreAsleep (with_change test change entries) watches fresh' low' last'
    asleep-changed asleep p l outside e there waits =
        let y = changed-there test change entries p e keeps there in
        let was = waited p y.0 (test p) refl y.1 (ap (λ (z : Entry). z.state) (sym y.2) ∙ waits) l in
        let held = asleep p (omega arith) (outer p outside) y.0 y.1 was in
        record {
          by = held.by;
          holds = holds-changed held.by p held.holds (still p outside held (test held.by) refl);
          watch = held.watch;
          is_there = watch-changed test change keeps entries watches held.by ∙ held.is_there;
          from = held.from;
          to = held.to;
        }

  was-locks : (p : ℕ) (e : Entry) → entry_at (with_change test change entries) p ≡ Some e
      → (y : Entry) × (entry_at entries p ≡ Some y) × (e.locks ≡ y.locks)
  was-locks p e there =
      let y = changed-there test change entries p e keeps there in
      (y.0, y.1, ap (λ (z : Entry). z.locks) y.2 ∙ same-locks (test p) y.0)

  pub clear-changed : (watches : List Watch) → AreClear entries watches → AreClear (with_change test change entries) watches
  clear-changed watches clear p e there =
      let y = was-locks p e there in
      let w = clear p y.0 y.1 in (
        w.0,
        watch-changed test change keeps entries watches p ∙ w.1,
        λ q earlier later after before at here clash.
            (let x = was-locks q earlier at in
            let z = was-locks p later here in
            w.2 q x.0 z.0 after before x.1 z.1
            (subst (λ l. Conflict l z.0.locks) x.2 (subst (λ l. Conflict earlier.locks l) z.2 clash))),
      )

  pub touched-changed : (touched : Touched) → AllTouched entries touched → AllTouched (with_change test change entries) touched
  touched-changed touched marked q e there =
      let y = was-locks q e there in
      subst (IsMarked touched q) (sym y.2) (marked q y.0 y.1)

  -- a test answers the same before the position as it did, where it does so of each entry there that was changed
  pub below-changed : (says : State → Bool) (answer : Bool) (below : ℕ) → KeepsBelow says answer test change entries below
      → Below says answer entries below → Below says answer (with_change test change entries) below
  below-changed says answer below stays before q x l there =
      let y = changed-there test change entries q x keeps there in
      ap (λ (z : Entry). says z.state) y.2 ∙ go (test q) refl y.0 y.1 (before q y.0 l y.1)
    where
      go : (b : Bool) → test q ≡ b → (e : Entry) → entry_at entries q ≡ Some e → says e.state ≡ answer
          → says (changed_where b change e).state ≡ answer
      go true is e here was = stays q l is e here was
      go false is e here was = was

-- one more entry

module _ (entries : List Entry) (new : Entry) where
  -- what stands at a position is the new entry, or was there
  was-there : (p : ℕ) (x : Entry) → entry_at (entries ++ new ∷ []) p ≡ Some x → (entry_at entries p ≡ Some x) ⊎ ((p ≡ new.pos) × (x ≡ new))
  was-there p x there = go (entry_at entries p) refl (nat_eq new.pos p) refl (sym (pushed entries new p) ∙ there)
    where
      go : (o : Option Entry) → entry_at entries p ≡ o → (b : Bool) → nat_eq new.pos p ≡ b → option_or o (cond b (Some new) None) ≡ Some x
          → (entry_at entries p ≡ Some x) ⊎ ((p ≡ new.pos) × (x ≡ new))
      go (Some y) is b same found = inl (is ∙ found)
      go None is true same found = inr (sym (eqb-true new.pos p same), let here : new ≡ x = cc found in sym here)
      go None is false same found = absurd (cc found)

  stays-there : (q : ℕ) (x : Entry) → entry_at entries q ≡ Some x → entry_at (entries ++ new ∷ []) q ≡ Some x
  stays-there q x there = pushed entries new q ∙ ap (λ o. option_or o (cond (nat_eq new.pos q) (Some new) None)) there

  pub asleep-pushed : (watches : List Watch) (v : Watch) (fresh low last : ℕ) → AreAsleep entries watches fresh low last
      → AreAsleep (entries ++ new ∷ []) (watches ++ v ∷ []) (min fresh new.pos) low last
  asleep-pushed watches v fresh low last asleep p l outside e there waits =
      elim (was-there p e there) [
        | inl was ↦
            (let held = asleep p (omega arith) outside e was waits in
            record {
              by = held.by;
              holds = record {
                before = held.holds.before;
                entry = held.holds.entry;
                is_there = stays-there held.by held.holds.entry held.holds.is_there;
                unapplied = held.holds.unapplied;
                clash =
                    λ f there_too. held.holds.clash f
                    (subst (λ x. entry_at entries p ≡ Some x) (one-entry (entries ++ new ∷ []) p e f there there_too) was);
              };
              watch = held.watch;
              is_there = watch-pushed entries watches new v held.by held.watch held.is_there;
              from = held.from;
              to = held.to;
            })
        | inr is ↦ absurd (let same = is.0 in omega arith)
      ]

-- the next position is at the place behind the entries
next-place : (entries : List Entry) (new : Entry) → IsInRow entries → ComesNext entries new.pos
    → new.pos ≡ first_position (entries ++ new ∷ []) + length entries
next-place [] new row next = omega arith
next-place (x ∷ entries) new row next = let is = next-is x.pos new.pos x entries row next in omega arith

before-next : (entries : List Entry) (new : Entry) (p : ℕ) (e : Entry) → IsInRow entries → ComesNext entries new.pos
    → entry_at entries p ≡ Some e → p < new.pos
before-next [] new p e row next there = absurd (cc there)
before-next (x ∷ entries) new p e row next there =
    let is = next-is x.pos new.pos x entries row next in
    let high = (from-first x.pos (x ∷ entries) p e row there).1 in
    omega arith

module _ (entries : List Entry) (new : Entry) (row : IsInRow entries) (next : ComesNext entries new.pos) where
  pub touched-pushed : (before after : Touched) → KeepsMarks before after → IsMarked after new.pos new.locks
      → AllTouched entries before → AllTouched (entries ++ new ∷ []) after
  touched-pushed before after keeps here marked q e there =
      elim (was-there entries new q e there) [
        | inl was ↦ keeps q e.locks (marked q e was)
        | inr is ↦
            subst (λ (x : Entry). IsMarked after q x.locks) (sym is.1) (subst (λ k. IsMarked after k new.locks) (sym is.0) here)
      ]

  module _ (watches : List Watch) (v : Watch) (many : length watches ≡ length entries) where
    watch-new : (p : ℕ) → p ≡ new.pos → watch_at (entries ++ new ∷ []) (watches ++ v ∷ []) p ≡ Some v
    watch-new p is =
        let place = next-place entries new row next in
        watch-there (first_position (entries ++ new ∷ [])) (entries ++ new ∷ []) (watches ++ v ∷ []) p (length entries) v
        (row-push entries new row next) (let more = length-append entries (new ∷ []) in omega arith) (is ∙ place)
        (subst (λ k. slice_get (watches ++ v ∷ []) k ≡ Some v) many (get_last watches v))

    -- the new entry is in conflict with none after the greatest of its marks
    pub clear-pushed : (touched : Touched) → AllTouched entries touched → IsClearPast touched v.until new.locks
        → AreClear entries watches → AreClear (entries ++ new ∷ []) (watches ++ v ∷ [])
    clear-pushed touched marked past clear p e there =
        elim (was-there entries new p e there) [
          | inl was ↦
              (let w = clear p e was in (
                w.0,
                watch-pushed entries watches new v p w.0 w.1,
                λ q earlier later after before at here. elim (was-there entries new q earlier at) [
                  | inl it ↦
                      w.2 q earlier later after before it
                      (subst (λ x. entry_at entries p ≡ Some x) (one-entry (entries ++ new ∷ []) p e later there here) was)
                  | inr is ↦ absurd (let same = is.0 in let l = before-next entries new p e row next was in omega arith)
                ],
              ))
          | inr is ↦ (
            v,
            watch-new p is.0,
            λ q earlier later after before at here. elim (was-there entries new q earlier at) [
              | inl it ↦
                  subst (λ (x : Entry). ¬ Conflict earlier.locks x.locks)
                  (sym is.1 ∙ one-entry (entries ++ new ∷ []) p e later there here)
                  (past q earlier.locks (marked q earlier it) after)
              | inr same ↦ absurd (let a = is.0 in let b = same.0 in omega arith)
            ],
          )
        ]

pub below-pushed : (says : State → Bool) (answer : Bool) (entries : List Entry) (new : Entry) (below : ℕ)
    → Below says answer entries below → Below says answer (entries ++ new ∷ []) (min below new.pos)
below-pushed says answer entries new below before q x l there = go (entry_at entries q) refl (sym (pushed entries new q) ∙ there)
  where
    go : (o : Option Entry) → entry_at entries q ≡ o → option_or o (cond (nat_eq new.pos q) (Some new) None) ≡ Some x
        → says x.state ≡ answer
    go (Some y) is found = before q x (omega arith) (is ∙ found)
    go None is found = absurd (let gone = rw (ne_eqb new.pos q (λ same. omega arith)) at found in cc gone)

-- without the first

module _ (first : Entry) (entries : List Entry) (row : IsInRow (first ∷ entries)) where
  there-too : (q : ℕ) (x : Entry) → entry_at entries q ≡ Some x → entry_at (first ∷ entries) q ≡ Some x
  there-too q x there =
      rw (ne_eqb first.pos q (λ same. (let low = (from-first (suc first.pos) entries q x row.1 there).0 in omega arith))) there

  -- what stands at another position than that of the first
  there-still : (q : ℕ) (x : Entry) → (first.pos ≡ q → ⊥) → entry_at (first ∷ entries) q ≡ Some x → entry_at entries q ≡ Some x
  there-still q x other there = go (nat_eq first.pos q) (ne_eqb first.pos q other) there
    where
      go : (b : Bool) → b ≡ false → cond b (Some first) (entry_at entries q) ≡ Some x → entry_at entries q ≡ Some x
      go true is found = absurd (false≢true (sym is))
      go false is found = found

  pub asleep-rest : (watches : List Watch) (fresh low last : ℕ) → is_applied first.state ≡ true
      → AreAsleep (first ∷ entries) watches fresh low last → AreAsleep entries (drop 1 watches) fresh low last
  asleep-rest watches fresh low last applied asleep p l outside e there waits =
      let held = asleep p l outside e (there-too p e there) waits in
      let other : first.pos ≡ held.by → ⊥ =
      (λ same. both_ways (is_applied first.state)
      (ap (λ (x : Entry). is_applied x.state)
      (one-entry (first ∷ entries) held.by first held.holds.entry (rw (eq-eqb first.pos held.by same) refl) held.holds.is_there)
      ∙ held.holds.unapplied) applied) in
      record {
        by = held.by;
        holds = record {
          before = held.holds.before;
          entry = held.holds.entry;
          is_there = there-still held.by held.holds.entry other held.holds.is_there;
          unapplied = held.holds.unapplied;
          clash = λ f at_p. held.holds.clash f (there-too p f at_p);
        };
        watch = held.watch;
        is_there = watch-rest first entries watches held.by held.watch other held.is_there;
        from = held.from;
        to = held.to;
      }

  pub below-rest : (says : State → Bool) (answer : Bool) (below : ℕ) → Below says answer (first ∷ entries) below
      → Below says answer entries below
  below-rest says answer below before q x l there = before q x l (there-too q x there)

  pub clear-rest : (watches : List Watch) → AreClear (first ∷ entries) watches → AreClear entries (drop 1 watches)
  clear-rest watches clear p e there =
      let w = clear p e (there-too p e there) in (
        w.0,
        watch-rest first entries watches p w.0
            (λ same. (let low = (from-first (suc first.pos) entries p e row.1 there).0 in omega arith)) w.1,
        λ q earlier later after before at here.
            w.2 q earlier later after before (there-too q earlier at) (there-too p later here),
      )

-- a position that is held up is not runnable
pub held-up : (entries : List Entry) (q p : ℕ) → HoldsUp entries q p → ¬ IsRunnable entries p
held-up entries q p holds runnable =
    let applied = runnable.ready q holds.entry holds.before holds.is_there (holds.clash runnable.entry runnable.is_there) in
    both_ways (is_applied holds.entry.state) holds.unapplied (ap is_applied applied)

-- an entry that waits is runnable exactly where nothing is found that holds it up
pub found-decides : (entries : List Entry) (p : ℕ) (e : Entry) (o : Option ℕ) (b : Bool) → is_some o ≡ not b → entry_at entries p ≡ Some e
    → is_waiting e.state ≡ true
    → IfNone o (IsReady entries p) → IfSome o (λ q. HoldsUp entries q p) → IsTrue b ↔ IsRunnable entries p
found-decides entries p e None true is there waits ready holds =
    (λ t. record { entry = e; is_there = there; waits = waits-is e.state waits; ready = ready e there }, λ r. refl)
found-decides entries p e None false is there waits ready holds = absurd (false≢true is)
found-decides entries p e (Some q) true is there waits ready holds = absurd (false≢true (sym is))
found-decides entries p e (Some q) false is there waits ready holds =
    (λ t. absurd (false≢true t), λ r. absurd (held-up entries q p holds r))

-- a position of which an entry that waits is held up is not runnable
pub not-looked : (entries : List Entry) (watches : List Watch) (q : ℕ) → IsLooked entries watches q → ¬ IsRunnable entries q
not-looked entries watches q looked runnable =
    let held = looked runnable.entry runnable.is_there runnable.waits in
    held-up entries held.by q held.holds runnable

-- a position whose entry is in the list stands from a place on, and before another
pub from-place : (entries : List Entry) (q : ℕ) (e : Entry) (start top : ℕ) → IsInRow entries → entry_at entries q ≡ Some e
    → (start ≡ 0) ⊎ (first_position entries + start ≤ top) → top ≤ q → first_position entries + start ≤ q
from-place entries q e start top row there (inl zero') l =
    let bounds = from-first (first_position entries) entries q e row there in
    let low = bounds.0 in
    omega arith
from-place entries q e start top row there (inr below) l = omega arith

pub to-place : (entries : List Entry) (q : ℕ) (e : Entry) (end top : ℕ) → IsInRow entries → entry_at entries q ≡ Some e
    → (end < length entries → top ≤ first_position entries + end) → q < top → q < first_position entries + end
to-place entries q e end top row there later l =
    let high = (from-first (first_position entries) entries q e row there).1 in
    elim (cases_lt end (length entries)) [
      | inl inside ↦ (let more = later inside in omega arith)
      | inr outside ↦ omega arith
    ]

-- what is found at a place from one on and before another stands within these positions
pub found-within : (entries : List Entry) (o : Option ℕ) (P : ℕ → Type 0) (start end top from below place : ℕ) → end ≤ length entries
    → end ≤ place → (start < length entries → top ≤ first_position entries + start) → from ≤ top
    → (place ≡ 0) ⊎ (first_position entries + place ≤ below)
    → IfSome o (λ p. (first_position entries + start ≤ p) × (p < first_position entries + end) × P p)
    → IfSome o (λ p. (from ≤ p) × (p < below) × P p)
found-within entries None P start end top from below place inside less later l bound found = tt
found-within entries (Some p) P start end top from below place inside less later l bound found =
    let low = found.0 in
    let high = found.1 in (
      (let more = later (omega arith) in omega arith),
      elim bound [ inl none ↦ absurd (omega arith) | inr before ↦ omega arith ],
      found.2,
    )

pub both-found : (o : Option ℕ) (from fresh below : ℕ) (P : ℕ → Type 0) → IfSome o (λ p. (from ≤ p) × (p < fresh) × P p)
    → IfSome o (λ p. (from ≤ p) × (p < below) × P p)
    → IfSome o (λ p. (from ≤ p) × (p < below) × (p < fresh) × P p)
both-found None from fresh below P one two = tt
both-found (Some p) from fresh below P one two = (two.0, two.1, one.1, one.2)

-- a position was looked at by a search that began no later, and found none before
pub looked-at : (entries : List Entry) (watches : List Watch) (o : Option ℕ) (q start end top : ℕ) → IsInRow entries
    → (start ≡ 0) ⊎ (first_position entries + start ≤ top) → top ≤ q → IfSome o (λ p. q < p)
    → ((e : Entry) → entry_at entries q ≡ Some e → IfNone o (q < first_position entries + end))
    → AreLooked entries watches (first_position entries + start) (unwrap_or o (first_position entries + end)) → IsLooked entries watches q
looked-at entries watches None q start end top row where' l before within looked e there waits =
    looked q (from-place entries q e start top row there where' l) (within e there) e there waits
looked-at entries watches (Some p) q start end top row where' l before within looked e there waits =
    looked q (from-place entries q e start top row there where' l) before e there waits

pub none-then : (o : Option ℕ) (A B : Type 0) → (A → B) → IfNone o A → IfNone o B
none-then None A B then' holds = then' holds
none-then (Some p) A B then' holds = tt

pub none-so : (o : Option ℕ) (A : Type 0) → A → IfNone o A
none-so None A holds = holds
none-so (Some p) A holds = tt

-- nothing else has to be looked at where all that had to be was
pub asleep-more : (entries : List Entry) (watches : List Watch) (fresh low last fresh' low' last' : ℕ)
    → ((q : ℕ) → q < fresh' → (q < low') ⊎ (last' < q) → ((q < fresh) × ((q < low) ⊎ (last < q))) ⊎ IsLooked entries watches q)
    → AreAsleep entries watches fresh low last → AreAsleep entries watches fresh' low' last'
asleep-more entries watches fresh low last fresh' low' last' cover asleep q l outside =
    elim (cover q l outside) [ inl was ↦ asleep q was.0 was.1 | inr looked ↦ looked ]

-- what is left to look at after a search from `low` on
pub asleep-narrowed : (entries : List Entry) (watches : List Watch) (marks : Marks) (follows : Bool) (found : Option ℕ) (all : Bool)
    → (follows ≡ true → (q : ℕ) → q < marks.fresh → marks.low ≤ q → q ≤ marks.last → IfSome found (λ p. q < p)
    → IfNone found (all ≡ true) → IsLooked entries watches q)
    → AreMarks entries watches marks → AreMarks entries watches (narrowed follows found all marks)
asleep-narrowed entries watches marks false found all looked marked = marked
asleep-narrowed entries watches marks true None false looked marked = marked
asleep-narrowed entries watches marks true None true looked marked =
    record {
      asleep =
          asleep-more entries watches marks.fresh marks.low marks.last marks.fresh 4294967295 0
          (λ q l outside. elim (cases_lt q marks.low) [
            | inl before ↦ inl (l, inl before)
            | inr not_before ↦ elim (cases_lt marks.last q) [
              | inl after ↦ inl (l, inr after)
              | inr not_after ↦ inr (looked refl q l not_before not_after tt refl)
            ]
          ]) marked.asleep;
      all_applied = marked.all_applied;
      clear = marked.clear;
    }
asleep-narrowed entries watches marks true (Some p) all looked marked =
    record {
      asleep =
          asleep-more entries watches marks.fresh marks.low marks.last marks.fresh p marks.last
          (λ q l outside. elim (cases_lt q marks.low) [
            | inl before ↦ inl (l, inl before)
            | inr not_before ↦ elim (cases_lt marks.last q) [
              | inl after ↦ inl (l, inr after)
              | inr not_after ↦ inr (looked refl q l not_before not_after (inside q outside not_after) tt)
            ]
          ]) marked.asleep;
      all_applied = marked.all_applied;
      clear = marked.clear;
    }
  where
    inside : (q : ℕ) → (q < p) ⊎ (marks.last < q) → q ≤ marks.last → q < p
    inside q (inl low) l = low
    inside q (inr high) l = absurd (omega arith)

-- and after one from `fresh` on
pub asleep-refreshed : (entries : List Entry) (watches : List Watch) (marks : Marks) (follows : Bool) (reached : ℕ)
    → (follows ≡ true → (q : ℕ) → marks.fresh ≤ q → q < reached → IsLooked entries watches q)
    → AreMarks entries watches marks → AreMarks entries watches (record marks { fresh = cond follows reached marks.fresh })
asleep-refreshed entries watches marks false reached looked marked =
    record { asleep = marked.asleep; all_applied = marked.all_applied; clear = marked.clear }
asleep-refreshed entries watches marks true reached looked marked =
    record {
      asleep =
          asleep-more entries watches marks.fresh marks.low marks.last reached marks.low marks.last
          (λ q l outside. elim (cases_lt q marks.fresh) [
            | inl before ↦ inl (before, outside)
            | inr not_before ↦ inr (looked refl q not_before l)
          ]) marked.asleep;
      all_applied = marked.all_applied;
      clear = marked.clear;
    }

-- one that stands before `fresh` is not runnable, where those of them that had to be looked at were
pub none-before-fresh : (entries : List Entry) (watches wider : List Watch) (marks : Marks) (q : ℕ) → AreMarks entries watches marks
    → AreWider watches wider → (marks.low ≤ q → q ≤ marks.last → IsLooked entries wider q) → q < marks.fresh → ¬ IsRunnable entries q
none-before-fresh entries watches wider marks q marked more looked l =
    elim (cases_lt q marks.low) [
      | inl before ↦ not-looked entries watches q (marked.asleep q l (inl before))
      | inr not_before ↦ elim (cases_lt marks.last q) [
        | inl after ↦ not-looked entries watches q (marked.asleep q l (inr after))
        | inr not_after ↦ not-looked entries wider q (looked not_before not_after)
      ]
    ]

pub marks-wider : (entries : List Entry) (watches wider : List Watch) (marks : Marks) → AreWider watches wider
    → AreMarks entries watches marks → AreMarks entries wider marks
marks-wider entries watches wider marks more marked =
    record {
      asleep = asleep-wider entries watches wider marks.fresh marks.low marks.last more marked.asleep;
      all_applied = marked.all_applied;
      clear = clear-wider entries watches wider more marked.clear;
    }

-- one is not runnable where both searches looked at all that had to be looked at
pub none-either : (entries : List Entry) (watches one two : List Watch) (marks : Marks) (q : ℕ) → AreMarks entries watches marks
    → AreWider watches one → AreWider one two
    → (marks.low ≤ q → q ≤ marks.last → q < marks.fresh → IsLooked entries one q) → (marks.fresh ≤ q → IsLooked entries two q)
    → ¬ IsRunnable entries q
none-either entries watches one two marks q marked more most woken fresh =
    elim (cases_lt q marks.fresh) [
      | inl before ↦
          none-before-fresh entries watches one marks q marked more (λ low last. woken low last before) before
      | inr after ↦ not-looked entries two q (fresh after)
    ]

pub first-found : (entries : List Entry) (o : Option ℕ) (from below : ℕ)
    → IfSome o (λ p. (from ≤ p) × (p < below) × IsRunnable entries p)
    → ((q : ℕ) → from ≤ q → q < below → IfSome o (λ p. q < p) → ¬ IsRunnable entries q)
    → IfSome o (λ p. IsFirstRunnable entries from p)
first-found entries None from below found none = tt
first-found entries (Some p) from below found none =
    let within' = found.1 in
    record { later = found.0; runnable = found.2; first = λ q l high. none q l (omega arith) high }

pub none-found : (entries : List Entry) (o : Option ℕ) (from below : ℕ)
    → ((q : ℕ) → from ≤ q → q < below → IfSome o (λ p. q < p) → ¬ IsRunnable entries q) → IfNone o (NoneRunnable entries from below)
none-found entries None from below none = λ q l high. none q l high tt
none-found entries (Some p) from below none = tt

-- a test answers the same before the place of the first entry from a position on as before the position
pub below-first : (says : State → Bool) (answer : Bool) (entries : List Entry) (below start : ℕ) → IsInRow entries
    → (start ≡ 0) ⊎ (first_position entries + start ≤ below) → Below says answer entries below
    → Below says answer entries (first_position entries + start)
below-first says answer entries below start row where' before q e l there =
    elim where' [
      | inl same ↦ absurd (let gone = sym (before-first (first_position entries) q entries row (omega arith)) ∙ there in cc gone)
      | inr low ↦ before q e (omega arith) there
    ]

pub below-more : (says : State → Bool) (answer : Bool) (entries : List Entry) (k : ℕ) (e : Entry) → IsInRow entries → k < length entries
    → e ≡ get_or entries k e → says e.state ≡ answer → Below says answer entries (first_position entries + k)
    → Below says answer entries (first_position entries + (k + 1))
below-more says answer entries k e row l read still before q x low there =
    elim (cases_eq q (first_position entries + k)) [
      | inl same ↦
          (let is = one-entry entries (first_position entries + k) x e (ap (entry_at entries) (sym same) ∙ there)
          (read-there entries k e row l read) in
          ap (λ (y : Entry). says y.state) is ∙ still)
      | inr ne ↦ before q x (omega arith) there
    ]

pub below-here : (says : State → Bool) (answer : Bool) (entries : List Entry) (k : ℕ) (e : Entry) → IsInRow entries → k < length entries
    → e ≡ get_or entries k e → Below says answer entries (first_position entries + k) → Below says answer entries e.pos
below-here says answer entries k e row l read before = subst (Below says answer entries) (sym (read-position entries k e row l read)) before

-- what is applied lets each later entry pass
pub pass-applied : (entries : List Entry) (whole start : ℕ) (e : Entry) → IsInRow entries
    → (start ≡ 0) ⊎ (first_position entries + start ≤ whole) → AllApplied entries whole
    → AllLetPass entries (first_position entries + start) e
pass-applied entries whole start e row where' applied q x low there clash =
    applied-is x.state (below-first is_applied true entries whole start row where' applied q x low there)

-- one that waits stands before no mark before which each is applied
pub waiting-kept : (entries : List Entry) (p below : ℕ) (x : Entry) (change : Entry → Entry)
    → entry_at entries p ≡ Some x → x.state ≡ Waiting → KeepsBelow is_applied true (λ q. nat_eq q p) change entries below
waiting-kept entries p below x change there waits q l is e here applied =
    let same : x ≡ e = one-entry entries p x e there (ap (entry_at entries) (sym (eqb-true q p is)) ∙ here) in
    absurd (both_ways (is_applied e.state) (ap is_applied (ap (λ (y : Entry). y.state) (sym same) ∙ waits)) applied)

-- what is applied has its watch looked at
pub waking-holds : (entries : List Entry) (watches : List Watch) (p place : ℕ) (watch : Watch) (marks : Marks) (change : Entry → Entry)
    → IsInRow entries → IsPlaceOf entries p place → place < length watches → watch ≡ get_or watches place watch
    → KeepsHolding (λ q. nat_eq q p) change entries watches (waking watch marks).low (waking watch marks).last
waking-holds entries watches p place watch marks change row at within read q x w is here there unapplied =
    let mine =
    watch-there (first_position entries) entries watches p place watch row at.within at.position (read-at watches place watch within read) in
    let theirs = subst (λ r. watch_at entries watches r ≡ Some w) (eqb-true q p is) there in
    let both = sym mine ∙ theirs in
    let same : watch ≡ w = cc both in
    let from = ap (λ (v : Watch). v.from) same in
    let to = ap (λ (v : Watch). v.to) same in
    inr (omega arith, omega arith)

-- all is upheld where entries were changed
pub upheld-changed : (entries : List Entry) (watches : List Watch) (marks low : Marks) (touched : Touched) (unknown more : ℕ)
    (test : ℕ → Bool) (change : Entry → Entry) (news : List Entry)
    → KeepsPosition change → KeepsLocks change
    → KeepsWaiting test change entries low.fresh → KeepsHolding test change entries watches low.low low.last
    → low.fresh ≤ marks.fresh → low.low ≤ marks.low → marks.last ≤ low.last
    → KeepsBelow is_applied true test change entries low.whole → low.whole ≤ marks.whole
    → more ≡ unknown_in news → news ≡ with_change test change entries → IsKept news
    → IsUpheld entries watches marks touched unknown → IsUpheld news watches low touched more
upheld-changed entries watches marks low touched unknown more test change news keeps locks waiting holding sooner less later whole fewer
    count is kept upheld =
    record {
      kept = kept;
      many = upheld.many ∙ (sym (same-length test change entries) ∙ ap length (sym is));
      marked = subst (λ es. AreMarks es watches low) (sym is)
          (record {
            asleep = asleep-changed test change keeps locks entries watches marks.fresh marks.low marks.last low.fresh low.low low.last waiting holding sooner
                less later upheld.marked.asleep;
            all_applied = below-changed test change keeps locks entries is_applied true low.whole whole
                (λ q e l there. upheld.marked.all_applied q e (omega arith) there);
            clear = clear-changed test change keeps locks entries watches upheld.marked.clear;
          });
      touches = subst (λ es. AllTouched es touched) (sym is) (touched-changed test change keeps locks entries touched upheld.touches);
      unknowns = count;
    }

-- so where the change tells of no subthread what it touches
pub upheld-kept : (entries : List Entry) (watches : List Watch) (marks low : Marks) (touched : Touched) (unknown : ℕ)
    (test : ℕ → Bool) (change : Entry → Entry) (news : List Entry)
    → KeepsPosition change → KeepsLocks change → KeepsKnown change
    → KeepsWaiting test change entries low.fresh → KeepsHolding test change entries watches low.low low.last
    → low.fresh ≤ marks.fresh → low.low ≤ marks.low → marks.last ≤ low.last
    → KeepsBelow is_applied true test change entries low.whole → low.whole ≤ marks.whole
    → news ≡ with_change test change entries → IsKept news
    → IsUpheld entries watches marks touched unknown → IsUpheld news watches low touched unknown
upheld-kept entries watches marks low touched unknown test change news keeps locks known waiting holding sooner less later whole
    fewer is kept upheld =
    upheld-changed entries watches marks low touched unknown unknown test change news keeps locks waiting holding sooner less later whole
    fewer (upheld.unknowns ∙ (sym (unknown-same test change entries known) ∙ ap unknown_in (sym is))) is kept upheld

passed-below : (mark p q : ℕ) → q < passed mark p → (q ≡ p → ⊥) → q < mark
passed-below mark p q l other = go (nat_eq mark p) refl l
  where
    go : (b : Bool) → nat_eq mark p ≡ b → q < cond b (min (mark + 1) 4294967295) mark → q < mark
    go true is below = let same = eqb-true mark p is in omega arith
    go false is below = below

outside-below : (low last p q : ℕ) → (q ≡ p → ⊥) → (q < passed low p) ⊎ (last < q) → (q < low) ⊎ (last < q)
outside-below low last p q other (inl below) = inl (passed-below low p q below other)
outside-below low last p q other (inr after) = inr after

-- what begins to be looked at at a position that does not wait may begin after it
asleep-past : (entries : List Entry) (watches : List Watch) (marks : Marks) (p : ℕ)
    → ((e : Entry) → entry_at entries p ≡ Some e → e.state ≡ Waiting → ⊥)
    → AreAsleep entries watches marks.fresh marks.low marks.last
    → AreAsleep entries watches (passed marks.fresh p) (passed marks.low p) marks.last
asleep-past entries watches marks p busy asleep = λ q l outside. go q l outside (nat_eq q p) refl
  where
    go : (q : ℕ) → q < passed marks.fresh p → (q < passed marks.low p) ⊎ (marks.last < q) → (b : Bool) → nat_eq q p ≡ b
        → IsLooked entries watches q
    go q l outside true is = λ e there waits. absurd (busy e (subst (λ k. entry_at entries k ≡ Some e) (eqb-true q p is) there) waits)
    go q l outside false is =
        let other : (q ≡ p → ⊥) = λ same. false≢true (sym is ∙ eq-eqb q p same) in
        asleep q (passed-below marks.fresh p q l other) (outside-below marks.low marks.last p q other outside)

-- and all else stays
pub upheld-past : (entries : List Entry) (watches : List Watch) (marks : Marks) (touched : Touched) (unknown p : ℕ)
    → ((e : Entry) → entry_at entries p ≡ Some e → e.state ≡ Waiting → ⊥)
    → IsUpheld entries watches marks touched unknown → IsUpheld entries watches (past p marks) touched unknown
upheld-past entries watches marks touched unknown p busy upheld =
    record {
      kept = upheld.kept;
      many = upheld.many;
      marked = record {
        asleep = asleep-past entries watches marks p busy upheld.marked.asleep;
        all_applied = upheld.marked.all_applied;
        clear = upheld.marked.clear;
      };
      touches = upheld.touches;
      unknowns = upheld.unknowns;
    }

-- an entry that is out does not wait
pub out-busy : (entries news : List Entry) (p : ℕ) → news ≡ with_change (λ q. nat_eq q p) out_entry entries
    → (e : Entry) → entry_at news p ≡ Some e → e.state ≡ Waiting → ⊥
out-busy entries news p is e there waits = go (entry_at entries p) refl
  where
    found : option_map (changed_where (nat_eq p p) out_entry) (entry_at entries p) ≡ Some e
    found = sym (changed (λ q. nat_eq q p) out_entry entries p (λ x. refl)) ∙ ap (λ es. entry_at es p) (sym is) ∙ there

    go : (o : Option Entry) → entry_at entries p ≡ o → ⊥
    go None at = absurd (cc (ap (option_map (changed_where (nat_eq p p) out_entry)) (sym at) ∙ found))
    go (Some x) at =
        let here = ap (option_map (changed_where (nat_eq p p) out_entry)) (sym at) ∙ found in
        let out : Some (out_entry x) ≡ Some e = rw (eq-eqb p p refl) at here in
        let same : out_entry x ≡ e = cc out in
        let clash : (out_entry x).state ≡ Waiting = ap (λ (y : Entry). y.state) same ∙ waits in
        absurd (cc clash)

drop-length : (watches : List Watch) (n : ℕ) → length watches ≡ suc n → length (drop 1 watches) ≡ n
drop-length [] n is = absurd (omega arith)
drop-length (w ∷ watches) n is = let more : suc (length watches) ≡ suc n = is in omega arith

-- and without the first entry
pub upheld-rest : (first : Entry) (entries : List Entry) (watches rest : List Watch) (marks : Marks) (touched : Touched) (unknown more : ℕ)
    → rest ≡ drop 1 watches → more + one_in first ≡ unknown → is_applied first.state ≡ true
    → IsUpheld (first ∷ entries) watches marks touched unknown → IsUpheld entries rest marks touched more
upheld-rest first entries watches rest marks touched unknown more is less applied upheld =
    let row = upheld.kept.row in
    record {
      kept = kept-rest first entries upheld.kept;
      many = ap length is ∙ drop-length watches (length entries) upheld.many;
      marked = subst (λ ws. AreMarks entries ws marks) (sym is)
          (record {
            asleep = asleep-rest first entries row watches marks.fresh marks.low marks.last applied upheld.marked.asleep;
            all_applied = below-rest first entries row is_applied true marks.whole upheld.marked.all_applied;
            clear = clear-rest first entries row watches upheld.marked.clear;
          });
      touches = λ q e there. upheld.touches q e (there-too first entries row q e there);
      unknowns = let counted = upheld.unknowns in let one = unknown-first first entries in omega arith;
    }
