use Rattle.std.proofs.Common.{◌↔◌, true, refl, sym, subst}
use Rattle.std.specs.Prelude.{IsTrue}
use Rattle.whole_run.specs.View.{run_in}
use Rattle.whole_run.specs.Gives.{IsScoutedBy}
use Rattle.whole_run.specs.inner.Kept.{batch_in, stage_of}
use Rattle.reorder_list.proofs.Staged.{known-taken, taken-known}
use Rattle.whole_run.proofs.parts.detecting.scouted.Goals as goal

pub returns-in-Selective : goal.returns-in-Selective
returns-in-Selective c =
    let batch = batch_in c.args.plan.now in
    let at = stage_of batch c.args.parts.now.events.items in
    let entries = c.args.parts.now.rol.entries in
    let entries_are = c.requires.kept.window.entries_are in
    let known = c.all_known.ensures in
    subst (λ recovery. IsTrue c.all_known.result ↔ IsScoutedBy recovery at) (sym c.in-Selective.is) (
      λ all. known-taken (run_in batch) at entries entries_are (known.0 all),
      λ taken. known.1 (taken-known (run_in batch) at entries entries_are taken),
    )

pub returns-in-Rollback : goal.returns-in-Rollback
returns-in-Rollback c =
    let batch = batch_in c.args.plan.now in
    subst (λ recovery. IsTrue true ↔ IsScoutedBy recovery (stage_of batch c.args.parts.now.events.items)) (sym c.in-Rollback.is)
    (λ known. tt, λ all. refl)
