-- When the oldest position retires, what it writes, and that all is kept. What the code tests of the entries and the
-- faults is what the rules ask of the stage, both ways (may-now, not-now). The oldest entry has the lines of the oldest
-- position; without it the entries, the store and what undoes stand after the event (Windows).
use Rattle.std.proofs.Common.{◌≡◌, inl, inr, ℕ, Bool, true, false, ◌&&◌, ◌||◌, ◌+◌, List, [], ◌∷◌, ◌++◌, Option, Some, None, is_some, is_none, option_map, unwrap_or, refl, sym, ap, ◌∙◌, subst, slice_get}
use Rattle.std.specs.Prelude.{Result, Ok, Err}
use Rattle.std.specs.Result.{IsErr}
use Rattle.std.proofs.lemmas.Bool.{false≢true, and_parts, and_from, or_cases, or_left, or_right}
use Rattle.std.proofs.lemmas.List.{append-nil}
use Rattle.gp_base.specs.declared.journal.Event.{Event}
use Rattle.gp_base.specs.declared.journal.Event.TheVariants as event
use Rattle.gp_base.specs.meaning.Sinks.{AppendsPrefix}
use Rattle.dependence.specs.meaning.Restarts.{is_due, is_live, least_struck, NoneLive}
use Rattle.dependence.specs.meaning.Journal.{Stage, Drained, happens, Allowed}
use Rattle.dependence.specs.Standing.{StageStands}
use Rattle.reorder_list.specs.declared.entry.Entry.{Entry}
use Rattle.reorder_list.specs.declared.entry.State.{State}
use Rattle.reorder_list.specs.declared.entry.State.TheVariants as entry
use Rattle.reorder_list.specs.Entries.{is_applied}
use Rattle.reorder_list.specs.Stages.{EntriesStand}
use Rattle.whole_run.specs.declared.parts.Parts.{Parts}
use Rattle.whole_run.specs.declared.parts.backing.Backup.{Backup}
use Rattle.whole_run.specs.declared.calls.Halt.{Halt}
use Rattle.whole_run.specs.View.{Batch, View, grown, now, program_in, run_in, dependence_in, start_in, lines_of, lines_at}
use Rattle.reorder_list.specs.declared.report.StopWhy.{StopWhy}
use Rattle.restart_log.specs.meaning.Lines.{printed}
use Rattle.whole_run.specs.Gives.{Did, MayRetireNow, RetireGives, RetireWrites}
use Rattle.whole_run.specs.inner.Kept.{view_of, stage_of, IsPlaceIn, IsEnd, WindowStands, Keeps, Kept}
use Rattle.whole_run.specs.inner.Backed.{StandsBy}
use Rattle.whole_run.specs.inner.Backing.{DropsBefore}
use Rattle.whole_run.specs.inner.Retiring.{none_strikes, is_safe, entry_retires, oldest_retires, lines_of_entry, oldest_lines}
use Rattle.whole_run.proofs.Backings.{backed-lines}
use Rattle.whole_run.proofs.Progress.{halts-drain}
use Rattle.whole_run.proofs.Kepts.{stage_stands, stands_by, keeps_then}
use Rattle.whole_run.proofs.RingTakes.{ring_same}
use Rattle.whole_run.proofs.Safe.{oldest-is, oldest-there, safe-is, is-safe}
use Rattle.whole_run.proofs.Struck.{due-is, live-is}
use Rattle.whole_run.proofs.Windows.{window-retire}

none-is : {X : Type 0} (o : Option X) → is_none o ≡ true → o ≡ None
none-is None e = refl
none-is (Some x) e = absurd (false≢true e)

is-none : {X : Type 0} (o : Option X) → o ≡ None → is_none o ≡ true
is-none o e = ap is_none e

applied-is : (state : State) → is_applied state ≡ true → state ≡ entry.Applied
applied-is entry.Waiting e = absurd (false≢true e)
applied-is entry.Out e = absurd (false≢true e)
applied-is entry.Applied e = refl

-- nothing was written
pub none-written : (o : Option (List ℕ)) (bytes : List ℕ) → AppendsPrefix o o bytes
none-written None bytes = (0, tt)
none-written (Some xs) bytes = (0, sym (append-nil xs))

-- after an error a part was written
pub err-writes : (view : View) (before after : Option (List ℕ)) (result : Result (Option ℕ) StopWhy) → IsErr result
    → AppendsPrefix before after (printed (lines_at view.batch (now view).retired))
    → RetireWrites view before after result
err-writes view before after (Err why) is part = part
err-writes view before after (Ok answer) is part = absurd (false≢true is)

module _ (batch : Batch) (parts : Parts) (kept : Kept batch parts) where
  abbrev at : Stage
  at = stage_of batch parts.events.items

  stage : StageStands (dependence_in batch) batch.faults at
  stage = stage_stands batch parts.events.items kept.fit kept.journal

  stands : StandsBy (run_in batch) batch.faults batch.recovery at
  stands = stands_by batch parts.events.items kept.fit kept.journal

  abbrev retires : Bool
  retires = oldest_retires batch.recovery (is_some parts.ended) parts.rol.entries parts.backup.whole parts.issued batch.faults

  due-none : none_strikes false parts.rol.entries parts.issued batch.faults ≡ is_none (least_struck (is_due at.progress) batch.faults)
  due-none = ap is_none (due-is batch parts kept)

  live-none : none_strikes true parts.rol.entries parts.issued batch.faults ≡ is_none (least_struck (is_live at.progress) batch.faults)
  live-none = ap is_none (live-is batch parts kept)

  pub may-now : retires ≡ true → MayRetireNow (view_of batch parts)
  may-now true_is = go (slice_get parts.rol.entries 0) refl true_is
    where
      go : (o : Option Entry) → slice_get parts.rol.entries 0 ≡ o
          → entry_retires batch.recovery (is_some parts.ended) parts.rol.entries parts.backup.whole parts.issued batch.faults o ≡ true
          → MayRetireNow (view_of batch parts)
      go None there both = absurd (false≢true both)
      go (Some e) there both =
          let is = oldest-is (run_in batch) at parts.rol.entries e kept.window.entries_are there in
          let first = and_parts _ _ both in
          let second = and_parts _ _ first.1 in
          record {
            issued = is.1;
            applied = is.0.applied.0 (applied-is e.state first.0);
            none_due = none-is _ (sym due-none ∙ second.0);
            safe = elim (or_cases _ _ second.1) [
              | inl late ↦ inl (safe-is (run_in batch) at batch.faults (start_in batch) parts.rol.entries kept.window.entries_are e
                  is.0 is.3 parts.store parts.backup batch.recovery stands kept.window.backed (is.0.applied.0 (applied-is e.state first.0))
                  (subst (λ front. is_safe batch.recovery parts.rol.entries parts.backup.whole e front ≡ true)
                  kept.journal.issued_are late))
              | inr end ↦ inr (let parts_are = and_parts _ _ end in (parts_are.0, none-is _ (sym live-none ∙ parts_are.1)))
            ];
          }

  retires-now : MayRetireNow (view_of batch parts) → retires ≡ true
  retires-now may =
      let there = oldest-there (run_in batch) at parts.rol.entries kept.window.entries_are may.issued in
      let is = oldest-is (run_in batch) at parts.rol.entries there.0 kept.window.entries_are there.1 in
      let safe : (is_safe batch.recovery parts.rol.entries parts.backup.whole there.0 parts.issued
      || (is_some parts.ended && none_strikes true parts.rol.entries parts.issued batch.faults)) ≡ true = elim may.safe [
        | inl late ↦ or_left _ _
            (subst (λ front. is_safe batch.recovery parts.rol.entries parts.backup.whole there.0 front ≡ true) (sym kept.journal.issued_are)
            (is-safe (run_in batch) at batch.faults (start_in batch) parts.rol.entries kept.window.entries_are there.0 is.0 is.3
            parts.store parts.backup batch.recovery stands kept.window.backed may.issued late))
        | inr end ↦ or_right _ _ (and_from _ _ end.0 (live-none ∙ is-none _ end.1))
      ] in
      subst
      (λ o. entry_retires batch.recovery (is_some parts.ended) parts.rol.entries parts.backup.whole parts.issued batch.faults o ≡ true)
      (sym there.1)
      (and_from _ _ (ap is_applied (is.0.applied.1 may.applied)) (and_from _ _ (due-none ∙ is-none _ may.none_due) safe))

  pub not-now : retires ≡ false → ¬ MayRetireNow (view_of batch parts)
  not-now false_is may = false≢true (sym false_is ∙ retires-now may)

  module _ (true_is : retires ≡ true) where
    pub allowed : Allowed (dependence_in batch) batch.faults at (event.Retire at.retired)
    allowed =
        let may = may-now true_is in
        record {
          oldest = refl;
          issued = may.issued;
          applied = may.applied;
          none_due = may.none_due;
          safe = elim may.safe [
            | inl rest ↦ inl rest
            | inr end ↦ inr (drained parts.ended kept.journal.ended_is end.0 end.1)
          ];
        }
      where
        drained : (ended : Option Halt) → IsEnd batch at.progress.front ended → is_some ended ≡ true → NoneLive batch.faults at.progress
            → Drained (dependence_in batch) batch.faults at.progress
        drained None is known none = absurd (false≢true known)
        drained (Some halts) is known none = (halts-drain batch at.progress.front halts is, none)

    pub lines-are : oldest_lines parts.rol.entries ≡ lines_at batch at.retired
    lines-are =
        let may = may-now true_is in
        let there = oldest-there (run_in batch) at parts.rol.entries kept.window.entries_are may.issued in
        let is = oldest-is (run_in batch) at parts.rol.entries there.0 kept.window.entries_are there.1 in
        ap lines_of_entry there.1
        ∙ (ap (λ o. unwrap_or (option_map (λ (x : Entry). x.prints) o) []) (sym is.2)
        ∙ (backed-lines (program_in batch) batch.inputs batch.limits batch.faults batch.recovery at parts.rol.entries parts.store
        parts.backup at.retired is.0.subthread
        kept.fit.short stands kept.window.backed allowed is.0.is_there
        ∙ ap lines_of (sym is.0.is_there)))

    module _ (e : Entry) (others : List Entry) (entries_are : parts.rol.entries ≡ e ∷ others) where
      position : e.pos ≡ at.retired
      position = (subst (EntriesStand (run_in batch) at) entries_are kept.window.entries_are).row.0

      window : WindowStands batch at parts.ring.table (e ∷ others) parts.store parts.backup
      window = subst (λ entries. WindowStands batch at parts.ring.table entries parts.store parts.backup) entries_are kept.window

      oldest_applied : e.state ≡ entry.Applied
      oldest_applied =
          (oldest-is (run_in batch) at (e ∷ others) e window.entries_are refl).0.applied.1 (may-now true_is).applied

      pub gives : (after : View) → after ≡ grown (view_of batch parts) (event.Retire at.retired)
          → RetireGives (view_of batch parts) after (Some e.pos)
      gives after grown_is = (
        position,
        subst (λ p. Did (view_of batch parts) (event.Retire p) after) (sym position)
            (record { allowed = allowed; waited = tt; grown = grown_is }),
        may-now true_is,
      )

      pub made : (before events : List Event) → before ≡ parts.events.items → events ≡ before ++ event.Retire e.pos ∷ []
          → events ≡ parts.events.items ++ event.Retire at.retired ∷ []
      made before events before_are events_are = events_are ∙ (λ i. before_are i ++ event.Retire (position i) ∷ [])

      pub kept-retired : (backup : Backup) → DropsBefore (e.pos + 1) parts.backup backup
          → (events : List Event) → events ≡ parts.events.items ++ event.Retire at.retired ∷ []
          → Keeps batch parts.ring.table parts.places.items others parts.store backup events parts.restarts.items parts.issued parts.ended
      kept-retired backup dropped events events_are =
          rw events_are
          (keeps_then batch parts.events.items kept.fit kept.journal (event.Retire at.retired) allowed parts.ring.table parts.places.items
          others parts.store backup
          parts.restarts.items parts.issued parts.ended
          (ring_same batch (IsPlaceIn batch) at (happens (dependence_in batch) batch.faults at (event.Retire at.retired)) parts.ring.table
          parts.places.items refl refl kept.ring)
          (window-retire batch kept.fit at stage stands parts.ring.table parts.store parts.backup e others window oldest_applied backup
          (subst (λ p. DropsBefore (p + 1) parts.backup backup) position dropped))
          kept.journal.restarts_are kept.journal.issued_are kept.journal.ended_is)
