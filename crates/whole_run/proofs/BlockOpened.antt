-- All is kept where a block was opened: there is one checkpoint more, at its cut, or memory was out.
use Rattle.std.proofs.Common.{◌≡◌, ℕ, List, [], ◌∷◌, ◌++◌, map, All, Contains, Some, sym, subst, ◌∙◌}
use Rattle.std.specs.List.Sorted.{IsStrictlyIncreasing}
use Rattle.std.proofs.lemmas.List.Elements.{Contains-push}
use Rattle.gp_base.specs.declared.fault.Fault.{Fault}
use Rattle.task_ast.specs.meaning.State.{State}
use Rattle.task_ast.specs.meaning.Plain.{Subthread}
use Rattle.dependence.specs.meaning.Journal.{Stage}
use Rattle.record_store.specs.Stored.{Stored, IsAllHome}
use Rattle.reorder_list.specs.declared.entry.Entry.{Entry}
use Rattle.whole_run.specs.declared.parts.Parts.{Parts}
use Rattle.whole_run.specs.declared.parts.backing.Backup.{Backup}
use Rattle.whole_run.specs.declared.parts.backing.Checkpoint.{Checkpoint}
use Rattle.whole_run.specs.declared.recovery.Recovery.{Recovery}
use Rattle.whole_run.specs.declared.recovery.Recovery.TheVariants.{Selective, Rollback}
use Rattle.whole_run.specs.View.{Batch, run_in, start_in}
use Rattle.whole_run.specs.Gives.{MayPostNow}
use Rattle.whole_run.specs.inner.Backed.{open_cut, HasCut, AreLive, IsOpened, IsWhole, IsCheckpoint, HasCheckpoints, BackedBy}
use Rattle.whole_run.specs.inner.Kept.{view_of, stage_of, Keeps, Kept, WindowStands}
use Rattle.whole_run.proofs.Kepts.{stands_by, stage_stands}
use Rattle.whole_run.proofs.Options.{some_same}
use Rattle.whole_run.proofs.Windows.{opened-home, window-opened}

-- what undoes is a matter of how many are counted and of the checkpoints
backed-same : (run : List Subthread) (faults : List Fault) (start : State) (recovery : Recovery) (at : Stage) (entries : List Entry)
    (store : Stored) (backup later : Backup) → later.whole ≡ backup.whole → later.checkpoints.items ≡ backup.checkpoints.items
    → BackedBy run faults start recovery at entries store backup → BackedBy run faults start recovery at entries store later
backed-same run faults start Selective at entries store backup later whole same backed = backed
backed-same run faults start (Rollback every) at entries store backup later whole same backed =
    record {
      held = backed.held;
      whole = subst (IsWhole at) (sym whole) backed.whole;
      are = subst (All (IsCheckpoint run faults start every at store)) (sym same) backed.are;
      rising = subst (λ xs. IsStrictlyIncreasing (map (λ (x : Checkpoint). x.cut) xs)) (sym same) backed.rising;
      has = subst (HasCheckpoints run faults start every at) (sym same) backed.has;
      live = subst (AreLive at.retired) (sym same) backed.live;
    }

module _ (batch : Batch) (parts : Parts) (kept : Kept batch parts) where
  abbrev KeptWith : Backup → Type 0
  KeptWith later =
      Keeps batch parts.ring.table parts.places.items parts.rol.entries parts.store later parts.events.items
      parts.restarts.items parts.issued parts.ended

  with-window : (later : Backup)
      → WindowStands batch (stage_of batch parts.events.items) parts.ring.table parts.rol.entries parts.store later → KeptWith later
  with-window later window = record { fit = kept.fit; journal = kept.journal; ring = kept.ring; window = window }

  pub kept-same : (later : Backup) → later.whole ≡ parts.backup.whole → later.checkpoints.items ≡ parts.backup.checkpoints.items
      → KeptWith later
  kept-same later whole same =
      let window = kept.window in
      with-window later
      (record {
        entries_are = window.entries_are;
        backed = backed-same (run_in batch) batch.faults (start_in batch) batch.recovery (stage_of batch parts.events.items)
            parts.rol.entries parts.store parts.backup later whole same window.backed;
        placed = window.placed;
        locks = window.locks;
        ready = window.ready;
        home = window.home;
      })

  module _ (every : ℕ) (rolls : batch.recovery ≡ Rollback every) (p cut : ℕ) (may : MayPostNow (view_of batch parts) p)
      (opens : Some cut ≡ open_cut every parts.rol.entries p) (fresh : ¬ HasCut parts.backup.checkpoints.items cut) where
    pub home-then : IsAllHome parts.store
    home-then =
        opened-home batch kept.fit (stage_of batch parts.events.items) (stage_stands batch parts.events.items kept.fit kept.journal)
        (stands_by batch parts.events.items kept.fit kept.journal) parts.ring.table parts.store parts.backup parts.rol.entries kept.window
        every rolls p cut may.by_locks may.is_open (sym opens) fresh

    module _ (copied : Stored) (copy : copied ≡ parts.store) (room : List Checkpoint) (same : room ≡ parts.backup.checkpoints.items)
        (later : Backup) (whole : later.whole ≡ parts.backup.whole)
        (pushed : later.checkpoints.items ≡ room ++ record { cut = cut; store = copied } ∷ []) where
      pub kept-opened : KeptWith later
      kept-opened =
          with-window later
          (window-opened batch kept.fit (stage_of batch parts.events.items) (stage_stands batch parts.events.items kept.fit kept.journal)
          (stands_by batch parts.events.items kept.fit kept.journal) parts.ring.table parts.store parts.backup parts.rol.entries kept.window
          every rolls p cut may.by_locks may.is_open (sym opens) fresh later whole
          (pushed ∙ (λ i. same i ++ record { cut = cut; store = copy i } ∷ [])))

      pub is-opened : IsOpened batch.recovery parts.rol.entries p later
      is-opened =
          subst (λ r. IsOpened r parts.rol.entries p later) (sym rolls)
          (λ other is. (
            record { cut = cut; store = copied },
            subst (λ xs. Contains xs (record { cut = cut; store = copied })) (sym pushed)
                (Contains-push room (record { cut = cut; store = copied })),
            some_same (opens ∙ is),
          ))
