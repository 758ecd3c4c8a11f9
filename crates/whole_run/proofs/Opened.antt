-- What an engine keeps before its first event. Each part of what is kept is shown of what is there at the opening:
-- nothing was issued, posted or undone, no lock is away, the table is that with which the plain run begins, and each
-- record cell stands under one lock cell.
use Rattle.std.proofs.Common.{◌≡◌, ℕ, zero, suc, true, false, ◌<◌, ◌≤◌, List, [], ◌∷◌, length, map, replicate, None, Some, slice_get, refl, sym, ap, ◌∙◌, subst, arith}
use Rattle.std.specs.Prelude.{All, ℤ}
use Rattle.std.proofs.Math.ListN.{length-map}
use Rattle.gp_base.specs.Faults.{IsInRange}
use Rattle.gp_base.specs.declared.fault.Fault.{Fault}
use Rattle.gp_base.specs.declared.journal.Event.{Event}
use Rattle.gp_base.specs.declared.journal.Restart.{Restart}
use Rattle.task_ast.specs.declared.layout.Layout.{Layout}
use Rattle.task_ast.specs.declared.sync.SyncOp.TheVariants as sync
use Rattle.task_ast.specs.meaning.Names.{locks_of, records_of, barriers_of, registers_of, cells_in}
use Rattle.task_ast.specs.meaning.Layout.{cells_under}
use Rattle.task_ast.specs.Reached.{start_table}
use Rattle.task_ast.specs.meaning.State.{State}
use Rattle.task_ast.specs.meaning.Table.{numbers}
use Rattle.task_ast.specs.Table.{Table}
use Rattle.task_ast.specs.meaning.Plain.{Subthread, main_task, main_number, start_point}
use Rattle.task_ast.specs.Plain.{opening}
use Rattle.task_ast.proofs.Layouts.{length-numbers, accepted_sizes}
use Rattle.lock_checker.proofs.BaseLemmas.{accepted_small}
use Rattle.dependence.specs.meaning.Journal.{initial_stage}
use Rattle.dependence.specs.Histories.{HasCells}
use Rattle.dependence.specs.RunBuffer.{RunStands, initial_buffer}
use Rattle.dependence.specs.Standing.{AreShort}
use Rattle.dependence.proofs.RunBuffers.{after-events}
use Rattle.rollback.specs.States.{HeldStands, initial_held}
use Rattle.rollback.proofs.States.{initial-held}
use Rattle.task_code.specs.Reading.{start_place}
use Rattle.task_code.proofs.Machines.{follows}
use Rattle.record_store.specs.Lent.{IsSharedOut}
use Rattle.record_store.specs.Stored.{Stored, state_of, with_thread, without_threads}
use Rattle.record_store.proofs.SharedOut.{shared_law}
use Rattle.record_store.proofs.States.{opening_law}
use Rattle.reorder_list.specs.declared.entry.Entry.{Entry}
use Rattle.reorder_list.specs.Stages.{buffer_of}
use Rattle.subthread.specs.Tasks.{Suits}
use Rattle.whole_run.specs.declared.recovery.Recovery.{Recovery}
use Rattle.whole_run.specs.declared.recovery.Recovery.TheVariants.{Selective, Rollback}
use Rattle.whole_run.specs.declared.parts.Place.{Place}
use Rattle.whole_run.specs.declared.parts.backing.Backup.{Backup}
use Rattle.whole_run.specs.Recovering.{HasCuts}
use Rattle.whole_run.specs.View.{Batch, program_in, run_in, start_in}
use Rattle.whole_run.specs.inner.Backed.{IsWhole, BackedBy, held_of}
use Rattle.whole_run.specs.inner.Kept.{IsPlaceIn, IsFit, Keeps}
use Rattle.whole_run.specs.inner.Locks.{LocksStand}
use Rattle.whole_run.proofs.Options.{none_some}
use Rattle.whole_run.proofs.RingOpens.{ring_opens}
use Rattle.whole_run.proofs.Windows.{start-cells}
use Rattle.whole_run.proofs.Kepts.{keeps_as}

-- where thread 0 starts
pub place_opens : (batch : Batch) (task : ℕ) (arguments ctl : List ℤ) → task ≡ main_number (program_in batch) → arguments ≡ []
    → ctl ≡ (start_place (program_in batch) task 0 arguments).ctl
    → IsPlaceIn batch 0 sync.Start (record { at = record { task = task; pc = 0 }; ctl = ctl })
    (start_point (main_task (program_in batch)) 0 [])
place_opens batch task arguments ctl is_main none ctl_is =
    rw ctl_is (rw none (rw is_main ((follows (program_in batch) batch.inputs batch.limits).starts (main_number (program_in batch)) 0 [])))

-- nothing is undone before the first event
module _ (run : List Subthread) (faults : List Fault) (start : State) where
  no-copies : (whole : ℕ) → whole ≡ 0 → IsWhole initial_stage whole
  no-copies whole none =
      record { below = λ q l. absurd (omega arith); issued = omega arith; next = refl }

  backed-opens : (recovery : Recovery) (store : Stored) (backup : Backup) → HasCells start → AreShort faults → state_of store ≡ start
      → backup.whole ≡ 0 → backup.checkpoints.items ≡ [] → BackedBy run faults start recovery initial_stage [] store backup
  backed-opens Selective store backup has_cells short same zero_is none =
      record {
        buffer_is = subst (RunStands run faults start initial_stage) opens (after-events run faults start has_cells short [] tt).1;
        undoable = λ k d l. absurd (omega arith);
      }
    where
      opens : initial_buffer start ≡ buffer_of store []
      opens = λ i. record (initial_buffer start) { state = sym same i }
  backed-opens (Rollback every) store backup has_cells short same zero_is none =
      record {
        held = subst (HeldStands run faults start initial_stage) opens (initial-held run faults start);
        whole = no-copies backup.whole zero_is;
        are = rw none (λ k d l. absurd (omega arith));
        rising = rw none (λ k l. absurd (omega arith));
        has = λ p unretired posted. absurd (let l = posted.1 in omega arith);
        live = rw none tt;
      }
    where
      opens : initial_held start ≡ held_of store []
      opens = λ i. record (initial_held start) { state = sym same i }

module _ (batch : Batch) (cells : Layout) (suits : Suits batch.work cells batch.inputs batch.limits) where
  -- how many lock cells there are
  locks : length cells.under ≡ cells_in (locks_of (program_in batch).heads)
  locks =
      ap (λ (l : Layout). length l.under) suits.layout_is
      ∙ (length-map (numbers 0 (cells_in (locks_of (program_in batch).heads))) (cells_under (program_in batch).heads)
      ∙ length-numbers 0 (cells_in (locks_of (program_in batch).heads)))

  pub few_locks : length cells.under ≤ 65536
  few_locks = let few = (accepted_small (program_in batch) suits.code.accepted.faultless).0 in let same = locks in omega arith

  -- the record cells stand under the lock cells, each under one
  pub shared-out : (records : List ℤ) → records ≡ batch.inputs.records → IsSharedOut (length records) cells.under
  shared-out records same =
      let count = ap length same ∙ suits.inputs_are.records in
      subst (λ n. IsSharedOut n cells.under) (sym count)
      (subst (λ (l : Layout). IsSharedOut (cells_in (records_of (program_in batch).heads)) l.under) (sym suits.layout_is)
      (shared_law (program_in batch).heads (accepted_sizes (program_in batch) suits.code.accepted)))

  -- the ring begins as the plain run's table
  pub ring_begins : (table : Table) (n : ℕ) (barriers : List ℕ) → n ≡ length cells.under
      → barriers ≡ map (λ b. b.1) (barriers_of (program_in batch).heads)
      → table ≡ start_table batch.limits.subthreads barriers (replicate n None) (record { sync = sync.Start; line = 0 })
      → table ≡ (opening (program_in batch) batch.inputs batch.limits).table
  ring_begins table n barriers is_n are is =
      is ∙ (λ i. start_table batch.limits.subthreads (are i) (replicate ((is_n ∙ locks) i) None) (record { sync = sync.Start; line = 0 }))

  fit : HasCuts batch.recovery → All IsInRange batch.faults → batch.limits.subthreads < 4294967296 → IsFit batch
  fit cuts ranges few =
      record {
        cuts = cuts;
        suits = record {
          code = suits.code;
          layout_is = refl;
          inputs_are = suits.inputs_are;
          feeds_are = suits.feeds_are;
          turns_are = suits.turns_are;
          spared = suits.spared;
        };
        short = λ k d l. (ranges k d l).delay;
        few = few;
      }

  -- nothing was issued
  pub kept_opens : HasCuts batch.recovery → All IsInRange batch.faults → batch.limits.subthreads < 4294967296
      → (table : Table) (places : List Place) (entries : List Entry) (store : Stored) (backup : Backup) (events : List Event)
      (restarts : List Restart) (place : Place)
      → table ≡ (opening (program_in batch) batch.inputs batch.limits).table → places ≡ place ∷ []
      → IsPlaceIn batch 0 sync.Start place (start_point (main_task (program_in batch)) 0 [])
      → store ≡ with_thread (length (registers_of (main_task (program_in batch)))) (without_threads batch.inputs.records cells.under)
      → entries ≡ [] → backup.whole ≡ 0 → backup.checkpoints.items ≡ [] → events ≡ [] → restarts ≡ []
      → Keeps batch table places entries store backup events restarts 0 None
  kept_opens cuts ranges few table places entries store backup events restarts place table_is places_are starts store_is no_entries no_whole
      no_checkpoints no_events no_restarts =
      keeps_as batch (opening (program_in batch) batch.inputs batch.limits).table table
      (place ∷ []) places [] entries opened store backup backup
      [] events [] restarts 0 0 None None table_is places_are no_entries store_is refl no_events no_restarts refl refl keeps
    where
      opened : Stored
      opened = with_thread (length (registers_of (main_task (program_in batch)))) (without_threads batch.inputs.records cells.under)

      -- each lock is at home, and no entry is out
      none-lent : LocksStand opened.away []
      none-lent l = (λ is. absurd (no_true cells.under l is), λ lent. absurd (none_some lent.there))
        where
          no_true : (under : List (List ℕ)) (k : ℕ) → slice_get (map (λ _. false) under) k ≡ Some true → ⊥
          no_true [] k is = cc is
          no_true (x ∷ under) zero is = cc is
          no_true (x ∷ under) (suc k) is = no_true under k is

      suited : IsFit batch
      suited = fit cuts ranges few

      keeps : Keeps batch (opening (program_in batch) batch.inputs batch.limits).table (place ∷ []) [] opened backup [] [] 0 None
      keeps =
          record {
            fit = suited;
            journal = record {
              lawful = tt;
              restarts_are = refl;
              issued_are = refl;
              ended_is = tt;
            };
            ring = ring_opens batch (IsPlaceIn batch) place starts;
            window = record {
              entries_are = record { row = tt; front = refl; each = λ p e there. absurd (none_some there) };
              backed = backed-opens (run_in batch) batch.faults (start_in batch) batch.recovery opened backup (start-cells batch suited)
                  suited.short (opening_law (program_in batch) batch.inputs batch.limits cells.under) no_whole no_checkpoints;
              placed = λ k d l. absurd (omega arith);
              locks = none-lent;
              ready = λ p attempt q out less clash. absurd (let l = out.posted.1 in omega arith);
              home = record {
                threads = omega arith;
                cells = suits.inputs_are.records;
                under = ap (λ (l : Layout). l.under) suits.layout_is;
                locks = length-map cells.under (λ _. false) ∙ locks;
              };
            };
          }
