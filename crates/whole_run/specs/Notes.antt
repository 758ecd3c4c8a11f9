-- How notes stand to a run of which they are taken.
use Rattle.std.specs.Prelude.{◌≡◌, ◌⊎◌, ◌≤◌, ℕ, Bool, true, false, List, [], take, Option, Some, Result, IsErr}
use Rattle.task_ast.specs.declared.effect.Effect.{Effect}
use Rattle.dependence.specs.Removal.{done_in}
use Rattle.dependence.specs.RunBuffer.{members_at}
use Rattle.crew.specs.meaning.Noted.{left_in_order}
use Rattle.crew.specs.Noted.{Telling, NotesResult, NotesNothing}
use Rattle.reorder_list.specs.declared.report.Report.{Report}
use Rattle.reorder_list.specs.declared.report.EngineStop.{EngineStop}
use Rattle.whole_run.specs.declared.recovery.Recovery.TheVariants.{Selective}
use Rattle.whole_run.specs.View.{Batch, View, program_in, run_in, start_in, now}
use Rattle.whole_run.specs.Drive.{journal_in, stage_in}

-- what the first positions of the plain run leave
abbrev pub left_below : Batch → ℕ → List Effect
left_below batch p = take p (left_in_order (program_in batch) batch.inputs batch.limits)

-- what the attempt of a position left that is applied
abbrev pub left_in : View → ℕ → Effect
left_in view p = done_in (members_at (run_in view.batch) view.batch.faults (now view)) (start_in view.batch) (now view).applied p

-- The notes are those of the run so far: what has retired was told, and of each later position that is applied it was noted what it left.
pub record AreNotes (telling : Telling) (view : View) (start written : Option (List ℕ)) : Type 0 where
  pub left : ℕ → Option Effect
  pub told : telling start written left (left_below view.batch (now view).retired)
  pub noted : (p : ℕ) → (now view).retired ≤ p → (now view).applied p ≡ true → left p ≡ Some (left_in view p)

-- what has retired is the same, and what is applied now was so before, and left the same
pub record KeepsLeft (before after : View) : Type 0 where
  pub batch : after.batch ≡ before.batch
  pub retired : (now after).retired ≡ (now before).retired
  pub applied : (p : ℕ) → (now before).retired ≤ p → (now after).applied p ≡ true
      → ((now before).applied p ≡ true) × (left_in after p ≡ left_in before p)

-- so where the run restarts selectively
abbrev pub KeepsLeftBy : (before after : View) → Type 0
KeepsLeftBy before after = before.batch.recovery ≡ Selective → KeepsLeft before after

-- where the run restarts selectively, notes that are its own stay so, while the log comes to have other bytes
abbrev pub KeepsNotes : (before after : View) → (telling later : Telling) → (written written' : Option (List ℕ)) → Type 0
KeepsNotes before after telling later written written' =
    before.batch.recovery ≡ Selective → (start : Option (List ℕ)) → AreNotes telling before start written
    → AreNotes later after start written'

-- so while the log is as it was, whatever bytes it has
abbrev pub KeepsAllNotes : (before after : View) → (telling later : Telling) → Type 0
KeepsAllNotes before after telling later = (written : Option (List ℕ)) → KeepsNotes before after telling later written written

-- or of the last position that retired only a part was told
abbrev pub StopsNotes : (before after : View) → (telling later : Telling)
    → (part : (start written : Option (List ℕ)) → List Effect → Type 0)
    → (written written' : Option (List ℕ)) → Type 0
StopsNotes before after telling later part written written' =
    before.batch.recovery ≡ Selective → (start : Option (List ℕ)) → AreNotes telling before start written
    → AreNotes later after start written' ⊎ part start written' (left_below after.batch (now after).retired)

-- a run of a task was noted where it was applied, and else nothing was
abbrev pub NotesTaken : Bool → (telling later : Telling) → ℕ → Effect → Type 0
NotesTaken true telling later p e = NotesResult telling later p e
NotesTaken false telling later p e = NotesNothing telling later

-- Notes of which nothing was told come to tell what all positions left that the journal retires, or, where the run
-- stopped, a part of that of the last one.
abbrev pub NotesRun : (telling later : Telling) → (part : (start written : Option (List ℕ)) → List Effect → Type 0) → Batch
    → (written written' : Option (List ℕ)) → Result Report EngineStop → Type 0
NotesRun telling later part batch written written' result =
    batch.recovery ≡ Selective → (start : Option (List ℕ)) (left : ℕ → Option Effect) → telling start written left []
    → let told = left_below batch (stage_in batch (journal_in result)).retired in
    ((left' : ℕ → Option Effect) × later start written' left' told) ⊎ IsErr result × part start written' told
