-- What histories undo stands after each event of a run that restarts dependents. The histories in the entries and the
-- state of the store are a history buffer; so each event is one on such a buffer (RunBuffers), where entries and store
-- change as it does. A history that fits a store fits a wider one.
use Rattle.std.proofs.Common.{◌≡◌, ℕ, ◌≤◌, nat_eq, true, false, Bool, get_or, List, [], ◌∷◌, ◌++◌, length, Option, Some, None, option_map, refl, sym, ap, ◌∙◌, subst}
use Rattle.std.specs.Prelude.{IfSome}
use Rattle.std.proofs.lemmas.Bool.{eq-eqb}
use Rattle.std.proofs.lemmas.List.Elements.{All-push, All-tail}
use Rattle.gp_base.specs.declared.fault.Fault.{Fault}
use Rattle.gp_base.specs.declared.footprint.Footprint.{Footprint}
use Rattle.gp_base.specs.declared.journal.Event.{Event}
use Rattle.gp_base.specs.declared.journal.Event.TheVariants as event
use Rattle.task_ast.specs.declared.effect.Effect.{Effect}
use Rattle.task_ast.specs.meaning.State.{State}
use Rattle.task_ast.specs.meaning.Effect.{after}
use Rattle.task_ast.specs.History.{old_of}
use Rattle.task_ast.specs.meaning.Plain.{Subthread}
use Rattle.dependence.specs.meaning.Dependents.{is_member}
use Rattle.dependence.specs.meaning.Restarts.{struck_next}
use Rattle.dependence.specs.meaning.Journal.{Stage, Allowed, happens}
use Rattle.dependence.specs.meaning.Runs.{dependence_of}
use Rattle.dependence.specs.Standing.{StageStands}
use Rattle.dependence.specs.Histories.{HasCells}
use Rattle.dependence.specs.Touching.{done_by}
use Rattle.dependence.specs.Removal.{undone_part}
use Rattle.dependence.specs.Buffer.{buffer_with}
use Rattle.dependence.specs.RunBuffer.{members_at, RunStands, buffer_happens, buffer_restarted}
use Rattle.dependence.proofs.RunBuffers.{event-stands}
use Rattle.record_store.specs.Stored.{Stored, state_of, Fits}
use Rattle.record_store.proofs.Fitting.{wider_law}
use Rattle.reorder_list.specs.declared.entry.Entry.{Entry}
use Rattle.reorder_list.specs.Entries.{IsFresh, entry_at, with_change, with_change_at, out_entry, known_entry, applied_entry, raised_entry, histories_of}
use Rattle.reorder_list.specs.Stages.{EntriesStand, HistoriesFit, buffer_of}
use Rattle.reorder_list.proofs.Changes.{changed_where, changed, all-changed}
use Rattle.reorder_list.proofs.Buffered.{pushed-holds, sent-holds, learnt-holds, taken-holds, raised-holds, dropped-holds}
use Rattle.whole_run.specs.inner.Backed.{HistoriesStand}

-- there are no fewer slots for registers, and as many cells
pub record IsWider (before later : Stored) : Type 0 where
  pub threads : length before.threads ≤ length later.threads
  pub cells : length later.cells ≡ length before.cells

-- what fits a store goes on to fit
pub histories-fit : (store later : Stored) (entries : List Entry) → ((e : Effect) → Fits store e → Fits later e)
    → HistoriesFit store entries
    → HistoriesFit later entries
histories-fit store later entries wider fit k d l = go (get_or entries k d).hist (fit k d l)
  where
    go : (o : Option Effect) → IfSome o (Fits store) → IfSome o (Fits later)
    go None f = tt
    go (Some e) f = wider e f

pub histories-wider : (store later : Stored) (entries : List Entry) → IsWider store later → HistoriesFit store entries
    → HistoriesFit later entries
histories-wider store later entries wider fit =
    histories-fit store later entries (λ e. wider_law store later e wider.threads wider.cells) fit

module _ (run : List Subthread) (faults : List Fault) (start : State) (cells : HasCells start) (at : Stage)
    (stands : StageStands (dependence_of run) faults at) where
  abbrev after_event : Event → Stage
  after_event e = happens (dependence_of run) faults at e

  abbrev Histories : Stage → List Entry → Stored → Type 0
  Histories later entries store = HistoriesStand run faults start later entries store

  module _ (entries : List Entry) (store : Stored) (histories : Histories at entries store) where
    event-buffer : (e : Event) → Allowed (dependence_of run) faults at e
        → RunStands run faults start (after_event e) (buffer_happens run faults at e (buffer_of store entries))
    event-buffer e allowed = event-stands run faults start cells at (buffer_of store entries) stands histories.buffer_is e allowed

    same-state : (later : Stored) (others : List Entry) → state_of later ≡ state_of store → buffer_of later others ≡ buffer_of store others
    same-state later others state = λ i. record (buffer_of store others) { state = state i }

    pub histories-issue : (p : ℕ) (e : Entry) (later : Stored) → Allowed (dependence_of run) faults at (event.Issue p) → IsFresh e
        → state_of later ≡ state_of store → IsWider store later
        → HistoriesStand run faults start (happens (dependence_of run) faults at (event.Issue p)) (entries ++ e ∷ []) later
    histories-issue p e later allowed fresh state wider =
        record {
          buffer_is = subst (RunStands run faults start (after_event (event.Issue p)))
              (sym (pushed-holds later entries e fresh ∙ same-state later entries state)) (event-buffer (event.Issue p) allowed);
          undoable =
              All-push (λ (x : Entry). IfSome x.hist (Fits later)) entries e (histories-wider store later entries wider histories.undoable)
              (subst (λ (o : Option Effect). IfSome o (Fits later)) (sym fresh.no_history) tt);
        }

    pub histories-post : (p attempt : ℕ) (later : Stored) → Allowed (dependence_of run) faults at (event.Post p attempt)
        → state_of later ≡ state_of store → IsWider store later
        → HistoriesStand run faults start (happens (dependence_of run) faults at (event.Post p attempt))
        (with_change_at p out_entry entries) later
    histories-post p attempt later allowed state wider =
        record {
          buffer_is = subst (RunStands run faults start (after_event (event.Post p attempt)))
              (sym (sent-holds later entries p ∙ same-state later entries state)) (event-buffer (event.Post p attempt) allowed);
          undoable = all-changed (λ (x : Entry). IfSome x.hist (Fits later)) (λ (x : Entry). IfSome x.hist (Fits later)) (λ q. nat_eq q p)
              out_entry entries (λ x h. h) (λ x h. h) (histories-wider store later entries wider histories.undoable);
        }

    known-undoable : (p : ℕ) (foot : Footprint) → HistoriesFit store (with_change_at p (known_entry foot) entries)
    known-undoable p foot =
        all-changed (λ (x : Entry). IfSome x.hist (Fits store)) (λ (x : Entry). IfSome x.hist (Fits store))
        (λ q. nat_eq q p) (known_entry foot)
        entries (λ x h. h) (λ x h. h) histories.undoable

    pub histories-stale : (p attempt : ℕ) (foot : Footprint) → Allowed (dependence_of run) faults at (event.Take p attempt false)
        → HistoriesStand run faults start (happens (dependence_of run) faults at (event.Take p attempt false))
        (with_change_at p (known_entry foot) entries) store
    histories-stale p attempt foot allowed =
        record {
          buffer_is =
              subst (RunStands run faults start (after_event (event.Take p attempt false))) (sym (learnt-holds store entries p foot))
              (event-buffer (event.Take p attempt false) allowed);
          undoable = known-undoable p foot;
        }

    -- after a result that was applied
    module _ (p attempt : ℕ) (e : Entry) (foot : Footprint) (done : Effect) (later : Stored)
        (allowed : Allowed (dependence_of run) faults at (event.Take p attempt true)) (there : entry_at entries p ≡ Some e)
        (fresh : done ≡ done_by (members_at run faults at p) (state_of store)) (state : state_of later ≡ after done (state_of store))
        (wider : IsWider store later) (back : Fits later (old_of done (state_of store))) where
      abbrev known : List Entry
      known = with_change_at p (known_entry foot) entries

      abbrev taken : Entry → Entry
      taken = applied_entry (Some (old_of done (state_of store))) done.prints

      pub histories-take : HistoriesStand run faults start (happens (dependence_of run) faults at (event.Take p attempt true))
          (with_change_at p (applied_entry (Some (old_of done (state_of store))) done.prints) (with_change_at p (known_entry foot) entries))
          later
      histories-take =
          record {
            buffer_is = subst (RunStands run faults start (after_event (event.Take p attempt true)))
                (sym
                (taken-holds store later known p (known_entry foot e) done known-there state
                ∙ ap (buffer_with p done) (learnt-holds store entries p foot)))
                (subst (λ d. RunStands run faults start (after_event (event.Take p attempt true))
                (buffer_with p d (buffer_of store entries)))
                (sym fresh) (event-buffer (event.Take p attempt true) allowed));
            undoable =
                all-changed (λ (x : Entry). IfSome x.hist (Fits later)) (λ (x : Entry). IfSome x.hist (Fits later)) (λ q. nat_eq q p) taken
                known (λ x h. h) (λ x h. back) (histories-wider store later known wider (known-undoable p foot));
          }
        where
          known-there : entry_at known p ≡ Some (known_entry foot e)
          known-there =
              changed (λ q. nat_eq q p) (known_entry foot) entries p (λ x. refl)
              ∙ (ap (option_map (changed_where (nat_eq p p) (known_entry foot))) there
              ∙ ap (λ b. Some (changed_where b (known_entry foot) e)) (eq-eqb p p refl))

    -- after a restart, which undid what is redone
    pub histories-restart : (number struck : ℕ) (later : Stored) → Allowed (dependence_of run) faults at (event.Restart number)
        → struck_next (dependence_of run) faults at.progress ≡ Some struck → IsWider store later
        → state_of later
        ≡ undone_part (histories_of entries) (λ q. is_member q ((dependence_of run).redo struck at.progress.front))
        at.progress.front (state_of store)
        → HistoriesStand run faults start (happens (dependence_of run) faults at (event.Restart number))
        (with_change (λ q. is_member q ((dependence_of run).redo struck at.progress.front)) (raised_entry at.progress.front) entries) later
    histories-restart number struck later allowed next wider state =
        record {
          buffer_is = subst (RunStands run faults start (after_event (event.Restart number)))
              (sym (raised-holds store later entries part at.progress.front at.progress.front state))
              (subst (λ o. RunStands run faults start (after_event (event.Restart number))
              (buffer_restarted run at o (buffer_of store entries))) next
              (event-buffer (event.Restart number) allowed));
          undoable = all-changed (λ (x : Entry). IfSome x.hist (Fits later)) (λ (x : Entry). IfSome x.hist (Fits later)) part
              (raised_entry at.progress.front) entries (λ x h. h) (λ x h. tt)
              (histories-wider store later entries wider histories.undoable);
        }
      where
        part : ℕ → Bool
        part q = is_member q ((dependence_of run).redo struck at.progress.front)

  -- after a retirement
  pub histories-retire : (e : Entry) (entries : List Entry) (store : Stored) → EntriesStand run at (e ∷ entries)
      → HistoriesStand run faults start at (e ∷ entries) store
      → HistoriesStand run faults start (happens (dependence_of run) faults at (event.Retire at.retired)) entries store
  histories-retire e entries store stand histories =
      record {
        buffer_is = dropped-holds run faults start at store e entries stand histories.buffer_is;
        undoable = All-tail (λ (x : Entry). IfSome x.hist (Fits store)) e entries histories.undoable;
      }
