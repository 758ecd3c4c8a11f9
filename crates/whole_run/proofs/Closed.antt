-- What may be posted next, and what is reported, over the entries and the store.
use Rattle.std.proofs.Common.{◌≡◌, ◌↔◌, inl, inr, ℕ, ◌<◌, ◌≤◌, true, false, length, map, sym, ap, ◌∙◌, arith}
use Rattle.std.proofs.lemmas.Bool.{cases_lt, false≢true}
use Rattle.task_ast.specs.meaning.State.{cell_value}
use Rattle.task_ast.specs.Plain.{tree_machine}
use Rattle.task_ast.proofs.PlainRuns.{count_law}
use Rattle.task_ast.specs.meaning.Names.{records_of, cells_in}
use Rattle.task_ast.specs.meaning.Table.{numbers}
use Rattle.dependence.specs.meaning.Journal.{Stage, MayPost}
use Rattle.dependence.specs.Posting.{posting_of}
use Rattle.dependence.specs.meaning.Runs.{dependence_of}
use Rattle.dependence.specs.Standing.{present, StageStands}
use Rattle.dependence.proofs.Counts.{few-attempts}
use Rattle.record_store.specs.Stored.{state_of}
use Rattle.record_store.proofs.States.{records_law}
use Rattle.reorder_list.specs.Runnable.{IsRunnable, IsFirstRunnable, NoneRunnable}
use Rattle.reorder_list.proofs.Staged.{may-post, is-runnable}
use Rattle.whole_run.specs.declared.parts.Parts.{Parts}
use Rattle.whole_run.specs.View.{Batch, program_in, run_in, dependence_in, start_in, state_in}
use Rattle.whole_run.specs.Gives.{BlockIsOpen, IsNear, MayPostNow, IsNextToPost, NoneToPost}
use Rattle.whole_run.specs.inner.Backed.{is_open, window_end, StandsBy}
use Rattle.whole_run.specs.inner.Kept.{view_of, stage_of, Kept}
use Rattle.whole_run.proofs.Backings.{backed-state}
use Rattle.whole_run.proofs.Events.{redoes-struck}
use Rattle.whole_run.proofs.Kepts.{stands_by, stage_stands}
use Rattle.whole_run.proofs.BlockCounts.{open-is, open-earlier, near-within}

module _ (batch : Batch) (parts : Parts) (kept : Kept batch parts) where
  abbrev at : Stage
  at = stage_of batch parts.events.items

  stage : StageStands (dependence_in batch) batch.faults at
  stage = stage_stands batch parts.events.items kept.fit kept.journal

  stands : StandsBy (run_in batch) batch.faults batch.recovery at
  stands = stands_by batch parts.events.items kept.fit kept.journal

  -- an entry that is runnable is of a position that may be posted by locks
  posted-by-locks : (p : ℕ) → IsRunnable parts.rol.entries p → MayPost (posting_of (run_in batch)) at p (present at p)
  posted-by-locks p runnable =
      let may = may-post (run_in batch) at parts.rol.entries kept.window.entries_are (dependence_in batch) batch.faults p stage runnable in
      record { issued = may.issued; unretired = may.unretired; present = may.present; unposted = may.unposted; ready = may.ready }

  runs : (p : ℕ) → MayPostNow (view_of batch parts) p → IsRunnable parts.rol.entries p
  runs p may =
      is-runnable (run_in batch) at parts.rol.entries kept.window.entries_are (dependence_of (run_in batch)) batch.faults p may.by_locks

  -- whether its block is open is counted
  open-there : (p : ℕ) → MayPost (posting_of (run_in batch)) at p (present at p)
      → (is_open batch.recovery parts.backup.whole p ≡ true) ↔ BlockIsOpen batch.recovery (run_in batch) at p
  open-there p may =
      open-is batch.recovery (run_in batch) batch.faults (start_in batch) at parts.rol.entries parts.store parts.backup stands
      kept.window.backed p may.issued

  -- where the block of the first entry that is runnable is open, that is the first position that may be posted
  pub next-found : (from p : ℕ) → IsFirstRunnable parts.rol.entries from p → is_open batch.recovery parts.backup.whole p ≡ true
      → IsNextToPost (view_of batch parts) from p
  next-found from p first opens =
      let may = posted-by-locks p first.runnable in
      record {
        later = first.later;
        may = record { by_locks = may; is_open = (open-there p may).0 opens };
        first = λ q later before may. first.first q later before (runs q may);
      }

  -- and where it is not, none may be: the block of a later one is open only where this one is
  pub next-closed : (from p : ℕ) → IsFirstRunnable parts.rol.entries from p → is_open batch.recovery parts.backup.whole p ≡ false
      → NoneToPost (view_of batch parts) from
  next-closed from p first closed q later near may =
      elim (cases_lt q p) [
        | inl before ↦ first.first q later before (runs q may)
        | inr behind ↦
            false≢true (sym closed
            ∙ (open-there p (posted-by-locks p first.runnable)).1 (open-earlier batch.recovery (run_in batch) at p q behind may.is_open))
      ]

  -- no position has the greatest number
  numbered : (p : ℕ) → p < at.progress.front → p < 4294967295
  numbered p issued =
      let low = stage.front_low in
      let most = count_law (tree_machine (program_in batch) batch.inputs batch.limits) (program_in batch) batch.inputs batch.limits in
      let few = kept.fit.few in
      omega arith

  -- so one that is looked at and was issued is before the end of the window
  in-window : (p : ℕ) → p < at.progress.front → IsNear batch.recovery at p → p < window_end batch.recovery parts.backup.whole
  in-window p issued near =
      near-within batch.recovery (run_in batch) batch.faults (start_in batch) at parts.rol.entries parts.store parts.backup
      kept.window.backed p (numbered p issued) near

  -- where none before it is runnable, none of those that are looked at may be posted
  pub next-none : (from below : ℕ) → below ≡ window_end batch.recovery parts.backup.whole → NoneRunnable parts.rol.entries from below
      → NoneToPost (view_of batch parts) from
  next-none from below is none q later near may =
      none q later (let low = in-window q may.by_locks.issued near in omega arith) (runs q may)

  -- none was issued from the front on
  pub none-past : (from : ℕ) → parts.issued ≤ from → NoneToPost (view_of batch parts) from
  none-past from past q later near may =
      let issued = may.by_locks.issued in
      let are = kept.journal.issued_are in
      omega arith

  -- the cells of the store are those of its state
  pub records-are : parts.store.cells
      ≡ map (cell_value (state_in (view_of batch parts))) (numbers 0 (cells_in (records_of (program_in batch).heads)))
  records-are =
      records_law parts.store
      ∙ (λ i. map (cell_value (state i)) (numbers 0 (kept.window.home.cells i)))
    where
      state : state_of parts.store ≡ state_in (view_of batch parts)
      state =
          backed-state (run_in batch) batch.faults (start_in batch) batch.recovery at parts.rol.entries parts.store parts.backup
          kept.window.backed

  -- there are no more restarts than faults
  pub restarts-within : length parts.restarts.items ≤ length batch.faults
  restarts-within =
      let h = (few-attempts (dependence_in batch) batch.faults (redoes-struck batch) parts.events.items kept.journal.lawful).0 in
      let same = ap length kept.journal.restarts_are in
      omega arith
