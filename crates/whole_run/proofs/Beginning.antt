-- What stands where nothing was done.
use Rattle.std.proofs.Common.{◌≡◌, ℕ, List, [], Option, sym, subst, refl}
use Rattle.std.specs.Prelude.{Err}
use Rattle.std.proofs.KnownBytes.{Appends-nil}
use Rattle.gp_base.specs.declared.journal.Event.{Event}
use Rattle.gp_base.specs.declared.journal.Restart.{Restart}
use Rattle.task_ast.specs.declared.effect.Effect.{Effect}
use Rattle.crew.specs.Noted.{Telling}
use Rattle.reorder_list.specs.declared.report.StopWhy.{StopWhy}
use Rattle.whole_run.specs.View.{Batch, begun}
use Rattle.whole_run.specs.Notes.{NotesRun}
use Rattle.whole_run.specs.Drive.{restarts_in, JournalStands, WritesRetired}
use Rattle.whole_run.proofs.Noting.{keeps-stops, notes-stopped}

pub no-journal : (batch : Batch) (events : List Event) (restarts : List Restart) → events ≡ [] → restarts ≡ []
    → JournalStands batch (record { events = events; restarts = restarts })
no-journal batch events restarts e r =
    subst (λ es. JournalStands batch (record { events = es; restarts = restarts })) (sym e)
    (subst (λ rs. JournalStands batch (record { events = []; restarts = rs })) (sym r)
    (record { lawful = tt; first = (restarts_in batch, refl); counted = refl }))

pub no-lines : (batch : Batch) (before : Option (List ℕ)) (events : List Event) (restarts : List Restart) → events ≡ []
    → WritesRetired batch before before (record { events = events; restarts = restarts })
no-lines batch before events restarts e =
    subst (λ es. WritesRetired batch before before (record { events = es; restarts = restarts })) (sym e)
    (record { part = 0; bytes = Appends-nil before })

pub no-notes : (batch : Batch) (telling : Telling) (part : (start written : Option (List ℕ)) → List Effect → Type 0)
    (written : Option (List ℕ)) (why : StopWhy) (events : List Event) (restarts : List Restart) → events ≡ [] → restarts ≡ []
    → NotesRun telling telling part batch written written
    (Err (record { why = why; journal = record { events = events; restarts = restarts } }))
no-notes batch telling part written why events restarts e r =
    notes-stopped (begun batch) (begun batch) telling telling part written written
    (record { why = why; journal = record { events = events; restarts = restarts } }) refl refl (record { events = e; restarts = r })
    (keeps-stops (begun batch) (begun batch) telling telling part written written (λ selective start are. are))
