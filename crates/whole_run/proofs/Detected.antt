-- A restart over the entries and the store. What is struck has not retired, so it has an entry. Where dependents are
-- restarted, the entries of what is redone are raised and their histories put back; where all is rolled back, nothing
-- of the block has retired, so that there is a cut to go back to. Either way the window is kept, and the restart that
-- is noted is the definition's.
use Rattle.std.proofs.Common.{◌≡◌, inl, inr, ℕ, ◌+◌, ◌-◌, ◌^◌, ◌<◌, ◌≤◌, min, cond, List, [], ◌∷◌, ◌++◌, length, map, All, Option, Some, None, unwrap_or, refl, sym, ap, subst, ◌∙◌, arith}
use Rattle.std.specs.Prelude.{is_some}
use Rattle.std.specs.Option.{option_or, IsSome}
use Rattle.std.specs.List.Sorted.{IsStrictlyIncreasing}
use Rattle.std.proofs.lemmas.Bool.{cases_lt}
use Rattle.gp_base.specs.declared.journal.Event.{Event}
use Rattle.gp_base.specs.declared.journal.Event.TheVariants as event
use Rattle.gp_base.specs.declared.journal.Restart.{Restart}
use Rattle.gp_base.specs.declared.limits.TheConstants.{MOST_FAULTS}
use Rattle.task_ast.specs.meaning.Table.{numbers}
use Rattle.dependence.specs.meaning.Dependents.{is_member}
use Rattle.dependence.specs.meaning.Restarts.{drains, is_live, is_due, least_struck, struck_next, restart_of, attempt_of}
use Rattle.dependence.specs.meaning.Journal.{Stage, happens, restarted, Allowed}
use Rattle.dependence.specs.meaning.Runs.{dependence_of}
use Rattle.dependence.specs.Standing.{StageStands}
use Rattle.dependence.specs.Removal.{undone_part}
use Rattle.dependence.proofs.Counts.{few-attempts}
use Rattle.dependence.proofs.Struck.{struck-live}
use Rattle.rollback.specs.meaning.Cuts.{cut_at, cuts_of}
use Rattle.rollback.proofs.Backs.{cut-low}
use Rattle.rollback.proofs.Standing.{struck-cut}
use Rattle.record_store.specs.Stored.{Stored, state_of, SameShape, IsAllHome}
use Rattle.reorder_list.specs.declared.entry.Entry.{Entry}
use Rattle.reorder_list.specs.Entries.{AllKnown, entry_at, with_change, raised_entry, histories_of}
use Rattle.reorder_list.specs.Stages.{HistoriesFit, AllTaken}
use Rattle.reorder_list.proofs.Changes.{is-there, each-there}
use Rattle.reorder_list.proofs.Staged.{taken-known}
use Rattle.restart.specs.Redo.{redone}
use Rattle.restart.proofs.Standing.{same-redo}
use Rattle.whole_run.specs.declared.recovery.Recovery.{Recovery}
use Rattle.whole_run.specs.declared.recovery.Recovery.TheVariants.{Selective, Rollback}
use Rattle.whole_run.specs.declared.parts.Parts.{Parts}
use Rattle.whole_run.specs.declared.parts.backing.Backup.{Backup}
use Rattle.whole_run.specs.declared.parts.backing.Checkpoint.{Checkpoint}
use Rattle.whole_run.specs.declared.calls.Halt.{Halt}
use Rattle.whole_run.specs.Recovering.{recovered, HasCuts}
use Rattle.whole_run.specs.View.{Batch, run_in, dependence_in, start_in}
use Rattle.whole_run.specs.Gives.{Did, IsBackBy, IsBack, IsScoutedBy, IsScouted, NoneHolds, NoneOut, struck_now}
use Rattle.whole_run.specs.inner.Backed.{StandsBy, open_cut, BackedBy, HistoriesStand, CopiesStand}
use Rattle.whole_run.specs.inner.Backing.{IsRestored, DropsAfter}
use Rattle.whole_run.specs.inner.Kept.{view_of, stage_of, IsPlaceIn, IsEnd, WindowStands, Keeps, Kept}
use Rattle.whole_run.specs.inner.Detected.{RaisesFrom, attempt_in}
use Rattle.whole_run.proofs.Recoverings.{redoes-struck}
use Rattle.whole_run.proofs.AllHome.{all-home}
use Rattle.whole_run.proofs.OpenCuts.{open-cut-is, open-cut-there}
use Rattle.whole_run.proofs.Progress.{halts-drain}
use Rattle.whole_run.proofs.Kepts.{stage_stands, stands_by, keeps_then}
use Rattle.whole_run.proofs.RingTakes.{ring_same}
use Rattle.whole_run.proofs.Windows.{window-restart}
use Rattle.whole_run.proofs.Windows as rolled

module _ (batch : Batch) (parts : Parts) (kept : Kept batch parts) (p : ℕ) (is_struck : struck_now (view_of batch parts) ≡ Some p) where
  abbrev at : Stage
  at = stage_of batch parts.events.items

  stage : StageStands (dependence_in batch) batch.faults at
  stage = stage_stands batch parts.events.items kept.fit kept.journal

  stands : StandsBy (run_in batch) batch.faults batch.recovery at
  stands = stands_by batch parts.events.items kept.fit kept.journal

  -- what is struck as far as the end is known is struck next
  next : struck_next (dependence_in batch) batch.faults at.progress ≡ Some p
  next = go (least_struck (is_due at.progress) batch.faults) parts.ended kept.journal.ended_is is_struck
    where
      live : Option ℕ
      live = least_struck (is_live at.progress) batch.faults

      go : (o : Option ℕ) (known : Option Halt) → IsEnd batch at.progress.front known
          → option_or o (cond (is_some known) live None) ≡ Some p
          → option_or o (cond (drains (dependence_in batch) at.progress.front) live None) ≡ Some p
      go (Some q) known end f = f
      go None None end f = absurd (cc f)
      go None (Some halts) end f = rw (halts-drain batch at.progress.front halts end) f

  pub allowed : Allowed (dependence_in batch) batch.faults at (event.Restart (length at.progress.made))
  allowed = record { numbered = refl; some_struck = λ none. absurd (cc (none, next)) }

  -- it was made, where it was noted
  pub did-restart : IsBack (view_of batch parts) → (events : List Event)
      → events ≡ parts.events.items ++ event.Restart (length parts.restarts.items) ∷ []
      → Did (view_of batch parts) (event.Restart (length at.progress.made)) (record { batch = batch; events = events; ended = parts.ended })
  did-restart back events noted =
      record {
        allowed = allowed;
        waited = back;
        grown = λ i. record {
          batch = batch;
          events = (noted ∙ ap (λ made. parts.events.items ++ event.Restart (length made) ∷ []) kept.journal.restarts_are) i;
          ended = parts.ended;
        };
      }

  below : p < at.progress.front
  below = (struck-live (dependence_in batch) batch.faults at.progress p next).0

  -- what has retired isn't struck
  young : at.retired ≤ p
  young =
      elim (cases_lt p at.retired) [
        | inl old ↦ absurd (stage.retired_clean p old (struck-live (dependence_in batch) batch.faults at.progress p next).1)
        | inr late ↦ late
      ]

  pub struck-below : p < parts.issued
  struck-below = let front = kept.journal.issued_are in let l = below in omega arith

  -- from a position that has not retired on there is an entry for each below the front, and room for all
  low-room : (low spare : ℕ) → at.retired ≤ low → length parts.rol.entries ≤ spare → parts.issued ≤ low + spare
  low-room low spare from l = let issued = kept.journal.issued_are in let front = kept.window.entries_are.front in omega arith

  found-from : (q : ℕ) → at.retired ≤ q → q < at.progress.front → (e : Entry) × (entry_at parts.rol.entries q ≡ Some e)
  found-from q low high =
      is-there at.retired parts.rol.entries q kept.window.entries_are.row low (let front = kept.window.entries_are.front in omega arith)

  pub struck-room : (spare : ℕ) → length parts.rol.entries ≤ spare → parts.issued ≤ p + spare
  struck-room spare l = low-room p spare young l

  found : (e : Entry) × (entry_at parts.rol.entries p ≡ Some e)
  found = found-from p young below

  pub struck-there : IsSome (entry_at parts.rol.entries p)
  struck-there = rw found.1 refl

  -- there are few restarts, and so no attempt has a great number
  few : length batch.faults ≤ MOST_FAULTS
      → (length at.progress.made ≤ MOST_FAULTS) × ((q : ℕ) → attempt_of at.progress.made q ≤ MOST_FAULTS)
  few most =
      let h = few-attempts (dependence_in batch) batch.faults (redoes-struck (run_in batch) batch.recovery) parts.events.items
      kept.journal.lawful in
      (let l = h.0 in omega arith, λ q. let l = h.1 q in omega arith)

  pub attempts-few : length batch.faults ≤ MOST_FAULTS → All (λ (e : Entry). e.attempt < 4294967295) parts.rol.entries
  attempts-few most =
      each-there (λ (e : Entry). e.attempt < 4294967295) at.retired parts.rol.entries kept.window.entries_are.row
      (λ q e is. let same = (kept.window.entries_are.each q e is).attempt in let l = (few most).1 q in omega arith)

  pub restarts-few : length batch.faults ≤ MOST_FAULTS → length parts.restarts.items < 2 ^ 32
  restarts-few most = let same = ap length kept.journal.restarts_are in let l = (few most).0 in omega arith

  abbrev after_it : Stage
  after_it = happens (dependence_in batch) batch.faults at (event.Restart (length at.progress.made))

  after-is : after_it ≡ restarted (dependence_in batch) at (Some p)
  after-is = ap (restarted (dependence_in batch) at) next

  -- what is redone: with the position that is struck what the run says
  abbrev redo : List ℕ
  redo = (dependence_in batch).redo p at.progress.front

  -- the entries with those of what is redone raised
  abbrev raised : List Entry
  raised = with_change (λ q. is_member q redo) (raised_entry at.progress.front) parts.rol.entries

  -- all is kept where the window is and the restart is noted
  kept-noted : (entries : List Entry) (store : Stored) (backup : Backup) (events : List Event) (restarts : List Restart) (attempt : ℕ)
      (list : List ℕ)
      → WindowStands batch after_it parts.ring.table raised store backup
      → attempt ≡ attempt_in (entry_at parts.rol.entries p) → list ≡ redo
      → entries ≡ with_change (λ q. is_member q list) (raised_entry parts.issued) parts.rol.entries
      → events ≡ parts.events.items ++ event.Restart (length parts.restarts.items) ∷ []
      → restarts ≡ parts.restarts.items ++ record { front = parts.issued; struck = p; attempt = attempt; redo = list } ∷ []
      → Keeps batch parts.ring.table parts.places.items entries store backup events restarts parts.issued parts.ended
  kept-noted entries store backup events restarts attempt list window attempt_is list_is entries_are events_are restarts_are =
      subst (λ es. Keeps batch parts.ring.table parts.places.items entries store backup es restarts parts.issued parts.ended)
      (ap (λ n. parts.events.items ++ event.Restart n ∷ []) (sym (ap length kept.journal.restarts_are)) ∙ sym events_are)
      (keeps_then batch parts.events.items kept.fit kept.journal (event.Restart (length at.progress.made)) allowed parts.ring.table
      parts.places.items entries store backup restarts parts.issued parts.ended
      (ring_same batch (IsPlaceIn batch) at after_it parts.ring.table parts.places.items (ap (λ (s : Stage). s.progress.front) after-is)
      (ap (λ (s : Stage). s.taken) after-is) kept.ring)
      (subst (λ es. WindowStands batch after_it parts.ring.table es store backup)
      (sym entries-are) window)
      (restarts_are ∙ ((λ i. kept.journal.restarts_are i ++ made-is i ∷ []) ∙ sym (ap (λ (s : Stage). s.progress.made) after-is)))
      (kept.journal.issued_are ∙ sym (ap (λ (s : Stage). s.progress.front) after-is))
      (subst (λ front. IsEnd batch front parts.ended) (sym (ap (λ (s : Stage). s.progress.front) after-is)) kept.journal.ended_is))
    where
      entries-are : entries ≡ raised
      entries-are =
          entries_are
          ∙ (λ i. with_change (λ q. is_member q (list_is i)) (raised_entry (kept.journal.issued_are i)) parts.rol.entries)

      attempt-is : attempt ≡ attempt_of at.progress.made p
      attempt-is = attempt_is ∙ (ap attempt_in found.1 ∙ (kept.window.entries_are.each p found.0 found.1).attempt)

      -- the restart that is noted is the definition's
      made-is : record { front = parts.issued; struck = p; attempt = attempt; redo = list } ≡ restart_of (dependence_in batch) at.progress p
      made-is = λ i. record { front = kept.journal.issued_are i; struck = p; attempt = attempt-is i; redo = list_is i }

  -- what is kept undoes it where a run recovers so
  abbrev Backs : Recovery → Type 0
  Backs recovery = BackedBy (run_in batch) batch.faults (start_in batch) recovery at parts.rol.entries parts.store parts.backup

  -- ---- dependents alone are redone

  module _ (selective : batch.recovery ≡ Selective) where
    histories : HistoriesStand (run_in batch) batch.faults (start_in batch) at parts.rol.entries parts.store
    histories = subst Backs selective kept.window.backed

    pub histories-fit : HistoriesFit parts.store parts.rol.entries
    histories-fit = histories.undoable

    module _ (back : IsBack (view_of batch parts)) where
      none-holds : NoneHolds (run_in batch) at
      none-holds = subst (λ recovery. IsBackBy recovery (run_in batch) at) selective back

      pub home-is-back : IsAllHome parts.store
      home-is-back = all-home batch parts kept none-holds

    module _ (scouted : IsScouted (view_of batch parts)) where
      all-taken : AllTaken at
      all-taken = subst (λ recovery. IsScoutedBy recovery at) selective scouted

      -- what each entry touches is known
      pub all-known : AllKnown parts.rol.entries
      all-known = taken-known (run_in batch) at parts.rol.entries kept.window.entries_are all-taken

      redo-is : redone parts.rol.entries p parts.issued ≡ redo
      redo-is =
          ap (redone parts.rol.entries p) kept.journal.issued_are
          ∙ (same-redo (run_in batch) at parts.rol.entries p kept.window.entries_are all-known young
          ∙ ap (λ recovery. (recovered recovery (run_in batch)).redo p at.progress.front) (sym selective))

      -- all is kept
      pub kept-restarted : IsBack (view_of batch parts) → (entries : List Entry) (store : Stored) (events : List Event)
          (restarts : List Restart) (attempt : ℕ) (list : List ℕ)
          → attempt ≡ attempt_in (entry_at parts.rol.entries p) → list ≡ redone parts.rol.entries p parts.issued
          → entries ≡ with_change (λ q. is_member q list) (raised_entry parts.issued) parts.rol.entries
          → state_of store ≡ undone_part (histories_of parts.rol.entries) (λ q. is_member q list) parts.issued (state_of parts.store)
          → SameShape parts.store store → store.away ≡ parts.store.away
          → events ≡ parts.events.items ++ event.Restart (length parts.restarts.items) ∷ []
          → restarts ≡ parts.restarts.items ++ record { front = parts.issued; struck = p; attempt = attempt; redo = list } ∷ []
          → Keeps batch parts.ring.table parts.places.items entries store parts.backup events restarts parts.issued parts.ended
      kept-restarted back entries store events restarts attempt list attempt_is list_is entries_are state shape away events_are
          restarts_are =
          kept-noted entries store parts.backup events restarts attempt list window attempt_is part-is entries_are events_are restarts_are
        where
          part-is : list ≡ redo
          part-is = list_is ∙ redo-is

          state-is : state_of store
              ≡ undone_part (histories_of parts.rol.entries) (λ q. is_member q redo) at.progress.front (state_of parts.store)
          state-is =
              state
              ∙ (λ i. undone_part (histories_of parts.rol.entries) (λ q. is_member q (part-is i)) (kept.journal.issued_are i)
              (state_of parts.store))

          window : WindowStands batch after_it parts.ring.table raised store parts.backup
          window =
              window-restart batch kept.fit at stage stands parts.ring.table parts.store parts.backup parts.rol.entries kept.window
              selective (length at.progress.made) p allowed next (none-holds back) (home-is-back back) store shape away state-is

  -- ---- all from a cut on is rolled back

  module _ (every : ℕ) (rolls : batch.recovery ≡ Rollback every) where
    pub some-cuts : 1 ≤ every
    some-cuts = subst HasCuts rolls kept.fit.cuts

    copies : CopiesStand (run_in batch) batch.faults (start_in batch) every at parts.rol.entries parts.store parts.backup
    copies = subst Backs rolls kept.window.backed

    pub copies-rise : IsStrictlyIncreasing (map (λ (checkpoint : Checkpoint). checkpoint.cut) parts.backup.checkpoints.items)
    copies-rise = copies.rising

    pub copies-home : All (λ (checkpoint : Checkpoint). IsAllHome checkpoint.store) parts.backup.checkpoints.items
    copies-home k d less = (copies.are k d less).shape.home

    by-blocks : StandsBy (run_in batch) batch.faults (Rollback every) at
    by-blocks = subst (λ recovery. StandsBy (run_in batch) batch.faults recovery at) rolls stands

    -- none of the block of the position that is struck has retired
    unretired : at.retired ≤ cut_at (cuts_of every (run_in batch)) p
    unretired = struck-cut (cuts_of every (run_in batch)) (dependence_of (run_in batch)) batch.faults at p by-blocks.0 next

    -- so there is a cut to go back to
    pub cut-there : open_cut every parts.rol.entries p ≡ Some (cut_at (cuts_of every (run_in batch)) p)
    cut-there =
        open-cut-there (run_in batch) at parts.rol.entries kept.window.entries_are by-blocks.1 every some-cuts p young below unretired

    module _ (cut : ℕ) (cut_is : open_cut every parts.rol.entries p ≡ Some cut) where
      is-cut : (cut ≡ cut_at (cuts_of every (run_in batch)) p) × (at.retired ≤ cut)
      is-cut = open-cut-is (run_in batch) at parts.rol.entries kept.window.entries_are by-blocks.1 every some-cuts p cut young below cut_is

      pub cut-issued : cut ≤ parts.issued
      cut-issued =
          let low = cut-low (cuts_of every (run_in batch)) p in
          let same = is-cut.0 in
          let l = struck-below in
          omega arith

      pub cut-room : (spare : ℕ) → length parts.rol.entries ≤ spare → parts.issued ≤ cut + spare
      cut-room spare l = low-room cut spare is-cut.1 l

      pub from-cut-there : (q : ℕ) → cut ≤ q → q < parts.issued → IsSome (entry_at parts.rol.entries q)
      from-cut-there q from less =
          let low = is-cut.1 in
          let front = kept.journal.issued_are in
          let there = found-from q (omega arith) (omega arith) in
          rw there.1 refl

      -- all is kept
      pub kept-rolled : IsBack (view_of batch parts) → (entries : List Entry) (store : Stored) (copy : Option Stored) (mid backup : Backup)
          (events : List Event) (restarts : List Restart) (attempt : ℕ) (list : List ℕ)
          → IsRestored parts.backup.checkpoints.items cut (length parts.store.threads) copy → store ≡ unwrap_or copy parts.store
          → DropsAfter cut parts.backup mid → backup ≡ record mid { whole = min mid.whole cut }
          → attempt ≡ attempt_in (entry_at parts.rol.entries p) → RaisesFrom cut parts.issued parts.rol.entries entries list
          → events ≡ parts.events.items ++ event.Restart (length parts.restarts.items) ∷ []
          → restarts ≡ parts.restarts.items ++ record { front = parts.issued; struck = p; attempt = attempt; redo = list } ∷ []
          → Keeps batch parts.ring.table parts.places.items entries store backup events restarts parts.issued parts.ended
      kept-rolled back entries store copy mid backup events restarts attempt list restored store_is dropped backup_is attempt_is raises
          events_are restarts_are =
          kept-noted entries store backup events restarts attempt list window attempt_is part-is raises.entries events_are restarts_are
        where
          none-out : NoneOut at
          none-out = subst (λ recovery. IsBackBy recovery (run_in batch) at) rolls back

          redone-is : list ≡ numbers cut (at.progress.front - cut)
          redone-is = raises.redone ∙ ap (λ front. numbers cut (front - cut)) kept.journal.issued_are

          part-is : list ≡ redo
          part-is =
              redone-is
              ∙ rolled.redo-is batch kept.fit at stage stands parts.ring.table parts.store parts.backup parts.rol.entries kept.window
              every rolls (length at.progress.made) p cut allowed next cut_is

          window : WindowStands batch after_it parts.ring.table raised store backup
          window =
              rolled.window-rolled batch kept.fit at stage stands parts.ring.table parts.store parts.backup parts.rol.entries kept.window
              every rolls (length at.progress.made) p cut allowed next cut_is none-out copy restored store store_is mid backup dropped
              backup_is redo (sym part-is ∙ redone-is)
