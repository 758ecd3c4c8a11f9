-- Whether the oldest position may retire, as the entries tell it and as the stage does, whichever way the run recovers.
use Rattle.std.proofs.Common.{◌≡◌, inl, inr, ℕ, ◌+◌, ◌-◌, ◌<◌, ◌≤◌, true, nat_le, List, [], ◌∷◌, Some, refl, sym, subst, ◌∙◌, arith, slice_get}
use Rattle.std.proofs.lemmas.Bool.{eq-eqb, false≢true, and_parts, and_from, leb-true, le-leb, cases_lt}
use Rattle.gp_base.specs.declared.limits.TheConstants.{LONGEST_DELAY}
use Rattle.gp_base.specs.declared.fault.Fault.{Fault}
use Rattle.task_ast.specs.meaning.State.{State}
use Rattle.task_ast.specs.meaning.Plain.{Subthread}
use Rattle.dependence.specs.meaning.Restarts.{begun_of}
use Rattle.dependence.specs.meaning.Journal.{Stage, IsSafe, RestIsSafe}
use Rattle.dependence.specs.meaning.Runs.{dependence_of}
use Rattle.record_store.specs.Stored.{Stored}
use Rattle.reorder_list.specs.declared.entry.Entry.{Entry}
use Rattle.reorder_list.specs.Entries.{entry_at}
use Rattle.reorder_list.specs.Stages.{IsEntry, EntriesStand}
use Rattle.reorder_list.proofs.Changes.{is-there}
use Rattle.rollback.specs.Driving.{DrivingStands}
use Rattle.rollback.proofs.Driving.{rest-safe}
use Rattle.rollback.proofs.Multiples.{multiple-above, rest-is-safe, rest-safe-only}
use Rattle.whole_run.specs.declared.parts.backing.Backup.{Backup}
use Rattle.whole_run.specs.declared.recovery.Recovery.{Recovery}
use Rattle.whole_run.specs.declared.recovery.Recovery.TheVariants.{Selective, Rollback}
use Rattle.whole_run.specs.Recovering.{recovering}
use Rattle.whole_run.specs.inner.Backed.{IsWhole, StandsBy, BackedBy}
use Rattle.whole_run.specs.inner.Retiring.{is_old, entry_is_old, next_multiple, block_is_safe, is_safe}

module _ (run : List Subthread) (at : Stage) where
  -- the oldest entry is that of the position that retires next
  pub oldest-is : (entries : List Entry) (e : Entry) → EntriesStand run at entries → slice_get entries 0 ≡ Some e
      → IsEntry run at at.retired e × (at.retired < at.progress.front) × (entry_at entries at.retired ≡ Some e)
      × (e.pos ≡ at.retired)
  oldest-is [] e stand is = absurd (cc is)
  oldest-is (x ∷ entries) e stand is =
      let same : x ≡ e = cc is in
      let here : entry_at (x ∷ entries) at.retired ≡ Some x = rw (eq-eqb x.pos at.retired stand.row.0) refl in
      subst (λ y. IsEntry run at at.retired y × (at.retired < at.progress.front) × (entry_at (x ∷ entries) at.retired ≡ Some y)
      × (y.pos ≡ at.retired)) same
      (stand.each at.retired x here, (let front = stand.front in omega arith), here, stand.row.0)

  -- where one is not retired, there is an oldest entry
  pub oldest-there : (entries : List Entry) → EntriesStand run at entries → at.retired < at.progress.front
      → (e : Entry) × (slice_get entries 0 ≡ Some e)
  oldest-there [] stand l = absurd (let front = stand.front in omega arith)
  oldest-there (x ∷ entries) stand l = (x, refl)

  -- an entry is old where no fault can come that strikes its position
  old-is : (p : ℕ) (e : Entry) → IsEntry run at p e → is_old e.begun at.progress.front ≡ true
      → begun_of at.progress.made p + LONGEST_DELAY ≤ at.progress.front
  old-is p e is old = let late = leb-true (e.begun + LONGEST_DELAY) at.progress.front old in let begun = is.begun in omega arith

  is-old : (p : ℕ) (e : Entry) → IsEntry run at p e → begun_of at.progress.made p + LONGEST_DELAY ≤ at.progress.front
      → is_old e.begun at.progress.front ≡ true
  is-old p e is late = le-leb (e.begun + LONGEST_DELAY) at.progress.front (let begun = is.begun in omega arith)

  -- how many positions are applied and the last entry of the block tell whether all of it is safe
  module _ (entries : List Entry) (stand : EntriesStand run at entries) (every : ℕ) (some : 1 ≤ every)
      (driving : DrivingStands (dependence_of run) at) (whole : ℕ) (is_whole : IsWhole at whole) where
    abbrev next : ℕ
    next = next_multiple every at.retired

    -- there is an entry of the last of the block, where that was issued
    last-there : next ≤ at.progress.front → (e : Entry) × (entry_at entries (next - 1) ≡ Some e)
    last-there issued =
        let above = multiple-above every some at.retired in
        let front = stand.front in
        is-there at.retired entries (next - 1) stand.row (omega arith) (omega arith)

    block-is : block_is_safe every entries whole at.retired at.progress.front ≡ true
        → (q : ℕ) → at.retired ≤ q → q < next → IsSafe at q
    block-is safe q from below =
        let both = and_parts (nat_le next whole) (entry_is_old at.progress.front (entry_at entries (next - 1))) safe in
        let within = leb-true next whole both.0 in
        let issued = is_whole.issued in
        let above = multiple-above every some at.retired in
        let last = last-there (omega arith) in
        let old = old-is (next - 1) last.0 (stand.each (next - 1) last.0 last.1)
        (subst (λ o. entry_is_old at.progress.front o ≡ true) last.1 both.1) in
        rest-safe (dependence_of run) at at.retired (next - 1) driving (omega arith)
        (λ r low high. is_whole.below r (omega arith)) old q from (omega arith)

    is-block : ((q : ℕ) → q < at.retired → at.applied q ≡ true) → next ≤ at.progress.front
        → ((q : ℕ) → at.retired ≤ q → q < next → IsSafe at q)
        → block_is_safe every entries whole at.retired at.progress.front ≡ true
    is-block retired issued safe =
        and_from (nat_le next whole) (entry_is_old at.progress.front (entry_at entries (next - 1))) (le-leb next whole within) old
      where
        applied-below : (q : ℕ) → q < next → at.applied q ≡ true
        applied-below q below =
            elim (cases_lt q at.retired) [
              | inl before ↦ retired q before
              | inr from ↦ (safe q from below).applied
            ]

        within : next ≤ whole
        within =
            elim (cases_lt whole next) [
              | inl below ↦ absurd (false≢true (sym is_whole.next ∙ applied-below whole below))
              | inr above ↦ above
            ]

        old : entry_is_old at.progress.front (entry_at entries (next - 1)) ≡ true
        old =
            let above = multiple-above every some at.retired in
            let last = last-there issued in
            subst (λ o. entry_is_old at.progress.front o ≡ true) (sym last.1)
            (is-old (next - 1) last.0 (stand.each (next - 1) last.0 last.1) (safe (next - 1) (omega arith) (omega arith)).long)

  -- the oldest entry tells whether the rest of its block is safe: of its position alone, or, where all is rolled back, up to the next
  -- multiple
  module _ (faults : List Fault) (start : State) (entries : List Entry) (stand : EntriesStand run at entries) (e : Entry)
      (is : IsEntry run at at.retired e) (first : e.pos ≡ at.retired) (store : Stored) (backup : Backup) where
    pub safe-is : (recovery : Recovery) → StandsBy run faults recovery at → BackedBy run faults start recovery at entries store backup
        → at.applied at.retired ≡ true
        → is_safe recovery entries backup.whole e at.progress.front ≡ true → RestIsSafe (recovering recovery run) at at.retired
    safe-is Selective stands backed applied safe =
        λ q low counted same. subst (IsSafe at) (sym same) (record { applied = applied; long = old-is at.retired e is safe })
    safe-is (Rollback every) stands backed applied safe =
        λ q low counted same. rest-is-safe every stands.2 (dependence_of run) at at.retired
        (block-is entries stand every stands.2 stands.1 backup.whole backed.whole
        (subst (λ p. block_is_safe every entries backup.whole p at.progress.front ≡ true) first safe)) q low same

    pub is-safe : (recovery : Recovery) → StandsBy run faults recovery at → BackedBy run faults start recovery at entries store backup
        → at.retired < at.progress.front
        → RestIsSafe (recovering recovery run) at at.retired → is_safe recovery entries backup.whole e at.progress.front ≡ true
    is-safe Selective stands backed issued rest =
        is-old at.retired e is (let front = stands.front_low in rest at.retired (omega arith) (omega arith) refl).long
    is-safe (Rollback every) stands backed issued rest =
        let only = rest-safe-only every stands.2 (dependence_of run) at stands.1 at.retired stands.0.stands.front_low (omega arith) issued
        rest in
        subst (λ p. block_is_safe every entries backup.whole p at.progress.front ≡ true) (sym first)
        (is-block entries stand every stands.2 stands.1 backup.whole backed.whole stands.0.stands.retired_applied only.0 only.1)
