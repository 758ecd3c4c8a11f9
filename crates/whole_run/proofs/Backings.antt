-- What undoes stands after each event, whichever way the run recovers: histories beside the entries, or copies of the store at cuts. Each
-- lemma is stated of a recovery, so that it serves where that is not known, and proved by its cases: Histories has those of a run that
-- restarts dependents, Checkpoints those of one that rolls back. What only one of them does is stated where the recovery is that one.
-- What the plain run leaves follows from the laws of the history buffer and of rollbacks.
use Rattle.std.proofs.Common.{◌≡◌, ℕ, ◌+◌, ◌-◌, ◌<◌, ◌≤◌, min, Bool, true, false, List, [], ◌∷◌, ◌++◌, length, Option, Some, sym, subst, slice_get}
use Rattle.std.specs.Prelude.{unwrap_or}
use Rattle.gp_base.specs.declared.limits.Limits.{Limits}
use Rattle.gp_base.specs.declared.feed.Inputs.{Inputs}
use Rattle.gp_base.specs.declared.fault.Fault.{Fault}
use Rattle.gp_base.specs.declared.footprint.Footprint.{Footprint}
use Rattle.gp_base.specs.declared.journal.Event.TheVariants as event
use Rattle.task_ast.specs.meaning.Tree.{Program}
use Rattle.task_ast.specs.declared.effect.Effect.{Effect}
use Rattle.task_ast.specs.meaning.State.{State}
use Rattle.task_ast.specs.meaning.Effect.{after}
use Rattle.task_ast.specs.History.{old_of}
use Rattle.task_ast.specs.Fold.{fold}
use Rattle.task_ast.specs.meaning.Table.{numbers}
use Rattle.task_ast.specs.meaning.Plain.{Subthread}
use Rattle.task_ast.specs.Plain.{order, opening}
use Rattle.task_ast.specs.Position.{before}
use Rattle.dependence.specs.meaning.Dependents.{is_member}
use Rattle.dependence.specs.meaning.Restarts.{struck_next}
use Rattle.dependence.specs.meaning.Journal.{Stage, happens, Allowed}
use Rattle.dependence.specs.Histories.{HasCells}
use Rattle.dependence.specs.Touching.{done_by}
use Rattle.dependence.specs.Removal.{undone_part}
use Rattle.dependence.specs.Standing.{AreShort}
use Rattle.dependence.specs.RunBuffer.{members_at}
use Rattle.dependence.proofs.RunBuffers.{drained-state, retired-lines}
use Rattle.rollback.specs.meaning.Cuts.{cuts_of}
use Rattle.rollback.proofs.States.{drained-held, retired-held}
use Rattle.record_store.specs.Stored.{Stored, state_of, Fits, IsAllHome}
use Rattle.reorder_list.specs.declared.entry.Entry.{Entry}
use Rattle.reorder_list.specs.Entries.{IsFresh, entry_at, with_change, with_change_at, out_entry, known_entry, applied_entry, raised_entry, histories_of, lines_of}
use Rattle.reorder_list.specs.Stages.{EntriesStand, buffer_of}
use Rattle.whole_run.specs.declared.recovery.Recovery.{Recovery}
use Rattle.whole_run.specs.declared.recovery.Recovery.TheVariants.{Selective, Rollback}
use Rattle.whole_run.specs.declared.parts.backing.Backup.{Backup}
use Rattle.whole_run.specs.Recovering.{recovering}
use Rattle.whole_run.specs.Gives.{NoneOut, BlockIsOpen}
use Rattle.whole_run.specs.inner.Backed.{held_of, open_cut, HasCut, IsOpened, BackedBy, StandsBy}
use Rattle.whole_run.specs.inner.Backing.{AdvancesBy, IsRestored, DropsAfter, DropsBefore}
use Rattle.whole_run.specs.inner.Taken.{history_by}
use Rattle.whole_run.proofs.Histories.{IsWider, histories-issue, histories-post, histories-stale, histories-take, histories-restart, histories-retire}
use Rattle.whole_run.proofs.Checkpoints.{StaysShaped, copies-issue, copies-post, copies-stale, copies-take, copies-retire}
use Rattle.whole_run.proofs.OpenBlocks.{nothing-out, copies-opened}
use Rattle.whole_run.proofs.RolledBack.{rolled-redo, stays-back, home-back, copies-rolled}

-- a store that is shaped as before is no narrower
wider : (store later : Stored) → StaysShaped store later → IsWider store later
wider store later stays = record { threads = stays.threads; cells = stays.cells }

module _ (run : List Subthread) (faults : List Fault) (start : State) where
  -- the store holds the fold of what is applied
  pub backed-state : (recovery : Recovery) (at : Stage) (entries : List Entry) (store : Stored) (backup : Backup)
      → BackedBy run faults start recovery at entries store backup
      → state_of store ≡ fold (members_at run faults at) start at.applied at.progress.front
  backed-state Selective at entries store backup backed = backed.buffer_is.state_is
  backed-state (Rollback every) at entries store backup backed = backed.held.state_is

module _ (run : List Subthread) (faults : List Fault) (start : State) (cells : HasCells start) (at : Stage) where
  -- after an issue, where the store may have one thread more
  pub backed-issue : (recovery : Recovery) → StandsBy run faults recovery at → (entries : List Entry) (store : Stored) (backup : Backup)
      → BackedBy run faults start recovery at entries store backup → (p : ℕ) (e : Entry) (later : Stored)
      → Allowed (recovering recovery run) faults at (event.Issue p) → IsFresh e → state_of later ≡ state_of store → StaysShaped store later
      → BackedBy run faults start recovery (happens (recovering recovery run) faults at (event.Issue p)) (entries ++ e ∷ []) later backup
  backed-issue Selective stands entries store backup backed p e later allowed fresh state stays =
      histories-issue run faults start cells at stands entries store backed p e later allowed fresh state (wider store later stays)
  backed-issue (Rollback every) stands entries store backup backed p e later allowed fresh state stays =
      copies-issue run faults start cells every at stands entries store backup backed p e later allowed fresh state stays

  -- after a post, before which there is a checkpoint of its block
  pub backed-post : (recovery : Recovery) → StandsBy run faults recovery at → (entries : List Entry) (store : Stored) (backup : Backup)
      → BackedBy run faults start recovery at entries store backup → (p attempt : ℕ) (later : Stored)
      → Allowed (recovering recovery run) faults at (event.Post p attempt) → EntriesStand run at entries
      → IsOpened recovery entries p backup
      → state_of later ≡ state_of store → StaysShaped store later
      → BackedBy run faults start recovery (happens (recovering recovery run) faults at (event.Post p attempt))
      (with_change_at p out_entry entries) later backup
  backed-post Selective stands entries store backup backed p attempt later allowed entries_are opened state stays =
      histories-post run faults start cells at stands entries store backed p attempt later allowed state (wider store later stays)
  backed-post (Rollback every) stands entries store backup backed p attempt later allowed entries_are opened state stays =
      copies-post run faults start cells every at stands entries store backup backed p attempt later allowed entries_are opened state stays

  -- after a result of another attempt
  pub backed-stale : (recovery : Recovery) → StandsBy run faults recovery at → (entries : List Entry) (store : Stored) (backup : Backup)
      → BackedBy run faults start recovery at entries store backup → (p attempt : ℕ) (foot : Footprint)
      → Allowed (recovering recovery run) faults at (event.Take p attempt false)
      → BackedBy run faults start recovery (happens (recovering recovery run) faults at (event.Take p attempt false))
      (with_change_at p (known_entry foot) entries) store backup
  backed-stale Selective stands entries store backup backed p attempt foot allowed =
      histories-stale run faults start cells at stands entries store backed p attempt foot allowed
  backed-stale (Rollback every) stands entries store backup backed p attempt foot allowed =
      copies-stale run faults start cells every at stands entries store backup backed p attempt foot allowed

  -- after a result of the present attempt, of which a history is kept, or those that are applied are counted
  pub backed-take : (recovery : Recovery) → StandsBy run faults recovery at → (entries : List Entry) (store : Stored) (backup : Backup)
      → BackedBy run faults start recovery at entries store backup
      → (p attempt : ℕ) (e : Entry) (foot : Footprint) (done : Effect) (later : Stored)
      (backup' : Backup) → Allowed (recovering recovery run) faults at (event.Take p attempt true) → entry_at entries p ≡ Some e
      → done ≡ done_by (members_at run faults at p) (state_of store) → state_of later ≡ after done (state_of store)
      → StaysShaped store later
      → Fits later (old_of done (state_of store))
      → let others = with_change_at p (applied_entry (history_by recovery (old_of done (state_of store))) done.prints)
      (with_change_at p (known_entry foot) entries) in
      EntriesStand run (happens (recovering recovery run) faults at (event.Take p attempt true)) others
      → AdvancesBy recovery others backup backup'
      → BackedBy run faults start recovery (happens (recovering recovery run) faults at (event.Take p attempt true)) others later backup'
  backed-take Selective stands entries store backup backed p attempt e foot done later backup' allowed there fresh state stays back
      entries_are counted =
      histories-take run faults start cells at stands entries store backed p attempt e foot done later allowed there fresh state
      (wider store later stays) back
  backed-take (Rollback every) stands entries store backup backed p attempt e foot done later backup' allowed there fresh state stays back
      entries_are counted =
      copies-take run faults start cells every at stands entries store backup backed p attempt e foot done later backup' allowed there fresh
      state stays entries_are counted

  -- after a restart of dependents, which undid them
  pub backed-restart : (recovery : Recovery) → recovery ≡ Selective → StandsBy run faults recovery at
      → (entries : List Entry) (store : Stored) (backup : Backup) → BackedBy run faults start recovery at entries store backup
      → (number struck : ℕ) (later : Stored) → Allowed (recovering recovery run) faults at (event.Restart number)
      → struck_next (recovering recovery run) faults at.progress ≡ Some struck → StaysShaped store later
      → let part : ℕ → Bool = λ q. is_member q ((recovering recovery run).redo struck at.progress.front) in
      state_of later ≡ undone_part (histories_of entries) part at.progress.front (state_of store)
      → BackedBy run faults start recovery (happens (recovering recovery run) faults at (event.Restart number))
      (with_change part (raised_entry at.progress.front) entries) later backup
  backed-restart Selective selective stands entries store backup backed number struck later allowed next stays state =
      histories-restart run faults start cells at stands entries store backed number struck later allowed next
      (wider store later stays) state
  backed-restart (Rollback every) selective stands entries store backup backed number struck later allowed next stays state =
      absurd (cc selective)

  -- after a retirement
  pub backed-retire : (recovery : Recovery) → StandsBy run faults recovery at
      → (e : Entry) (entries : List Entry) (store : Stored) (backup backup' : Backup) → EntriesStand run at (e ∷ entries)
      → BackedBy run faults start recovery at (e ∷ entries) store backup → DropsBefore (at.retired + 1) backup backup'
      → BackedBy run faults start recovery (happens (recovering recovery run) faults at (event.Retire at.retired)) entries store backup'
  backed-retire Selective stands e entries store backup backup' entries_are backed dropped =
      histories-retire run faults start cells at stands e entries store entries_are backed
  backed-retire (Rollback every) stands e entries store backup backup' entries_are backed dropped =
      copies-retire run faults start cells every at stands e entries store backup backup' entries_are backed dropped

-- what only a run that rolls back does
module _ (run : List Subthread) (faults : List Fault) (start : State) (cells : HasCells start) (at : Stage) (every : ℕ)
    (entries : List Entry) (store : Stored) (backup : Backup) (entries_are : EntriesStand run at entries) where
  abbrev Before : Recovery → Type 0
  Before recovery = StandsBy run faults recovery at × BackedBy run faults start recovery at entries store backup

  -- before the first post of a block nothing is out, and a copy of the store is a checkpoint
  module _ (p cut : ℕ) (unretired : at.retired ≤ p) (issued : p < at.progress.front) (opens : open_cut every entries p ≡ Some cut)
      (fresh : ¬ HasCut backup.checkpoints.items cut) where
    pub unbegun-out : (recovery : Recovery) → recovery ≡ Rollback every → Before recovery → BlockIsOpen recovery run at p → NoneOut at
    unbegun-out recovery rolls =
        subst (λ r. Before r → BlockIsOpen r run at p → NoneOut at) (sym rolls)
        (λ given is_open.
        nothing-out run faults start cells every at given.0 entries store backup given.1 entries_are p cut unretired issued opens fresh
        is_open)

    pub backed-opened : (recovery : Recovery) → recovery ≡ Rollback every → Before recovery → BlockIsOpen recovery run at p
        → IsAllHome store
        → (later : Backup) → later.whole ≡ backup.whole
        → later.checkpoints.items ≡ backup.checkpoints.items ++ record { cut = cut; store = store } ∷ []
        → BackedBy run faults start recovery at entries store later
    backed-opened recovery rolls given is_open home later whole items =
        subst (λ r. Before r → BlockIsOpen r run at p → BackedBy run faults start r at entries store later) (sym rolls)
        (λ given is_open.
        copies-opened run faults start cells every at given.0 entries store backup given.1 entries_are p cut unretired issued opens fresh
        is_open home later whole items)
        given is_open

  -- a rollback
  module _ (number struck cut : ℕ) (opens : open_cut every entries struck ≡ Some cut) where
    -- it may be made, and this is struck
    abbrev Strikes : Recovery → Type 0
    Strikes recovery =
        Allowed (recovering recovery run) faults at (event.Restart number)
        × (struck_next (recovering recovery run) faults at.progress ≡ Some struck)

    -- it redoes all from the open cut on
    pub redoes-rolled : (recovery : Recovery) → recovery ≡ Rollback every → Before recovery → Strikes recovery
        → numbers cut (at.progress.front - cut) ≡ (recovering recovery run).redo struck at.progress.front
    redoes-rolled recovery rolls =
        subst (λ r. Before r → Strikes r → numbers cut (at.progress.front - cut) ≡ (recovering r run).redo struck at.progress.front)
        (sym rolls)
        (λ given strikes.
        rolled-redo run faults start cells every at given.0 entries store backup given.1 entries_are number struck cut strikes.0 strikes.1
        opens)

    module _ (o : Option Stored) (restored : IsRestored backup.checkpoints.items cut (length store.threads) o) where
      -- the store is shaped as before, with all locks at home
      pub shaped-rolled : (recovery : Recovery) → recovery ≡ Rollback every → Before recovery → Strikes recovery
          → StaysShaped store (unwrap_or o store) × (IsAllHome store → IsAllHome (unwrap_or o store))
      shaped-rolled recovery rolls =
          subst (λ r. Before r → Strikes r → StaysShaped store (unwrap_or o store) × (IsAllHome store → IsAllHome (unwrap_or o store)))
          (sym rolls)
          (λ given strikes. (
            stays-back run faults start cells every at given.0 entries store backup given.1 entries_are number struck cut strikes.0
                strikes.1
                opens o restored,
            home-back run faults start cells every at given.0 entries store backup given.1 entries_are number struck cut strikes.0 strikes.1
                opens o restored,
          ))

      pub backed-rolled : (recovery : Recovery) → recovery ≡ Rollback every → Before recovery → Strikes recovery
          → (mid backup' : Backup) → DropsAfter cut backup mid → backup' ≡ record mid { whole = min mid.whole cut }
          → (redo : List ℕ) → redo ≡ numbers cut (at.progress.front - cut)
          → BackedBy run faults start recovery (happens (recovering recovery run) faults at (event.Restart number))
          (with_change (λ q. is_member q redo) (raised_entry at.progress.front) entries) (unwrap_or o store) backup'
      backed-rolled recovery rolls given strikes mid backup' drops backup_is redo redo_is =
          subst
          (λ r. Before r → Strikes r
          → BackedBy run faults start r (happens (recovering r run) faults at (event.Restart number))
          (with_change (λ q. is_member q redo) (raised_entry at.progress.front) entries) (unwrap_or o store) backup')
          (sym rolls)
          (λ given strikes.
          copies-rolled run faults start cells every at given.0 entries store backup given.1 entries_are number struck cut strikes.0
          strikes.1
          opens o restored redo redo_is mid backup' drops backup_is)
          given strikes

-- what the plain run leaves
module _ (program : Program) (inputs : Inputs) (limits : Limits) (faults : List Fault) where
  abbrev plain : List Subthread
  plain = order program inputs limits

  abbrev opens : State
  opens = (opening program inputs limits).state

  -- the lines of a position that may retire are those of the plain run
  pub backed-lines : (recovery : Recovery) (at : Stage) (entries : List Entry) (store : Stored) (backup : Backup) (p : ℕ) (s : Subthread)
      → AreShort faults → StandsBy plain faults recovery at → BackedBy plain faults opens recovery at entries store backup
      → Allowed (recovering recovery plain) faults at (event.Retire p) → slice_get plain p ≡ Some s → lines_of entries p ≡ s.lines
  backed-lines Selective at entries store backup p s short stands backed allowed there =
      retired-lines program inputs limits faults short at (buffer_of store entries) p s stands backed.buffer_is allowed there
  backed-lines (Rollback every) at entries store backup p s short stands backed allowed there =
      retired-held program inputs limits faults (cuts_of every plain) short at
      (held_of store entries) p s stands.0 backed.held allowed there

  -- where all that was issued has retired, the store holds what the plain run does
  pub backed-drained : (recovery : Recovery) (at : Stage) (entries : List Entry) (store : Stored) (backup : Backup)
      → StandsBy plain faults recovery at → BackedBy plain faults opens recovery at entries store backup
      → at.retired ≡ at.progress.front → state_of store ≡ (before program inputs limits at.progress.front).state
  backed-drained Selective at entries store backup stands backed all =
      drained-state program inputs limits faults at (buffer_of store entries) stands backed.buffer_is all
  backed-drained (Rollback every) at entries store backup stands backed all =
      drained-held program inputs limits faults (cuts_of every plain) at (held_of store entries) stands.0 backed.held all
