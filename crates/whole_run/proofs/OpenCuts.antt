-- The cut of a block of which none has retired, as the oldest entry tells it and as the run does.
use Rattle.std.proofs.Common.{◌≡◌, ◌⊎◌, inl, inr, ℕ, ◌<◌, ◌≤◌, Bool, true, false, cond, nat_le, List, [], ◌∷◌, length, Option, Some, None, refl, sym, ap, subst, ◌∙◌, arith, slice_get}
use Rattle.std.specs.Option.{option_map_or}
use Rattle.std.proofs.lemmas.Bool.{leb-true, leb-false, eq-eqb}
use Rattle.task_ast.specs.meaning.Table.{is_settle}
use Rattle.task_ast.specs.meaning.Plain.{Subthread}
use Rattle.dependence.specs.meaning.Journal.{Stage}
use Rattle.dependence.specs.meaning.Runs.{dependence_of}
use Rattle.rollback.specs.meaning.Cuts.{cut_at, cuts_of}
use Rattle.rollback.specs.Driving.{DrivingStands, multiple_at}
use Rattle.rollback.proofs.Multiples.{cut-multiple, cut-oldest, cut-retired}
use Rattle.reorder_list.specs.declared.entry.Entry.{Entry}
use Rattle.reorder_list.specs.Entries.{StandFrom, entry_at}
use Rattle.reorder_list.specs.Stages.{EntriesStand}
use Rattle.whole_run.specs.inner.Backed.{cut_after, open_cut}

-- the entry at the head of a row has the first position
first-there : (b : ℕ) (entries : List Entry) → StandFrom b entries → 0 < length entries
    → (e : Entry) × (slice_get entries 0 ≡ Some e) × (e.pos ≡ b) × (entry_at entries b ≡ Some e)
first-there b [] row some = absurd (omega arith)
first-there b (x ∷ entries) row some = (x, refl, row.0, rw (eq-eqb x.pos b row.0) refl)

module _ (run : List Subthread) (at : Stage) (entries : List Entry) (stand : EntriesStand run at entries)
    (driving : DrivingStands (dependence_of run) at) (every : ℕ) (some : 1 ≤ every) where
  abbrev cut : ℕ → ℕ
  cut p = cut_at (cuts_of every run) p

  -- the cut is open, or lies before the oldest position
  abbrev IsOpenOrPast : ℕ → Option ℕ → Type 0
  IsOpenOrPast p found = ((at.retired ≤ cut p) × (found ≡ Some (cut p))) ⊎ ((cut p < at.retired) × (found ≡ None))

  open-or-past : (p : ℕ) → at.retired ≤ p → p < at.progress.front → IsOpenOrPast p (open_cut every entries p)
  open-or-past p unretired issued =
      subst (λ o. IsOpenOrPast p (cut_after every p o)) (sym oldest.1)
      (by-multiple (nat_le oldest.0.pos (multiple_at every p)) (is_settle oldest.0.begins.sync) refl refl)
    where
      oldest : (e : Entry) × (slice_get entries 0 ≡ Some e) × (e.pos ≡ at.retired) × (entry_at entries at.retired ≡ Some e)
      oldest = first-there at.retired entries stand.row (let whole = stand.front in omega arith)

      -- it begins with what the run does
      settles-is : is_settle oldest.0.begins.sync ≡ (dependence_of run).settles at.retired
      settles-is =
          let is = stand.each at.retired oldest.0 oldest.3 in
          ap (λ begins. is_settle begins.sync) is.is_of.begins
          ∙ ap (λ o. option_map_or (λ (s : Subthread). is_settle s.begins.sync) o false) (sym is.is_there)

      by-multiple : (low settles : Bool) → nat_le oldest.0.pos (multiple_at every p) ≡ low → is_settle oldest.0.begins.sync ≡ settles
          → IsOpenOrPast p (cond low (Some (multiple_at every p)) (cond settles (Some oldest.0.pos) None))
      by-multiple true settles is_low is_settles =
          let behind = leb-true oldest.0.pos (multiple_at every p) is_low in
          let first = oldest.2 in
          let is = cut-multiple every some (dependence_of run) at driving p issued (omega arith) in
          inl ((let same = is in omega arith), ap Some (sym is))
      by-multiple false true is_low is_settles =
          let begun = leb-false oldest.0.pos (multiple_at every p) is_low in
          let first = oldest.2 in
          let is = cut-oldest every some (dependence_of run) at driving p unretired issued (omega arith) (sym settles-is ∙ is_settles) in
          inl ((let same = is in omega arith), ap Some (first ∙ sym is))
      by-multiple false false is_low is_settles =
          let begun = leb-false oldest.0.pos (multiple_at every p) is_low in
          let first = oldest.2 in
          inr (cut-retired every some (dependence_of run) at driving p unretired issued (omega arith) (sym settles-is ∙ is_settles), refl)

  -- an open cut is that of the run, and none of its block has retired
  pub open-cut-is : (p found : ℕ) → at.retired ≤ p → p < at.progress.front → open_cut every entries p ≡ Some found
      → (found ≡ cut p) × (at.retired ≤ found)
  open-cut-is p found unretired issued is =
      elim (open-or-past p unretired issued) [
        | inl opens ↦ (let same : found ≡ cut p = (let both = sym is ∙ opens.1 in cc both) in (same, (let low = opens.0 in omega arith)))
        | inr past ↦ absurd (let both = sym is ∙ past.1 in cc both)
      ]

  -- where none of the block has retired, the cut is open
  pub open-cut-there : (p : ℕ) → at.retired ≤ p → p < at.progress.front → at.retired ≤ cut p → open_cut every entries p ≡ Some (cut p)
  open-cut-there p unretired issued low =
      elim (open-or-past p unretired issued) [ inl opens ↦ opens.1 | inr past ↦ absurd (let before = past.0 in omega arith) ]

  -- and where it is not open, some has
  pub open-cut-none : (p : ℕ) → at.retired ≤ p → p < at.progress.front → open_cut every entries p ≡ None → cut p < at.retired
  open-cut-none p unretired issued is =
      elim (open-or-past p unretired issued) [ inl opens ↦ absurd (let both = sym is ∙ opens.1 in cc both) | inr past ↦ past.0 ]
