use Rattle.std.proofs.Common.{◌↔◌, not, sym, subst}
use Rattle.std.specs.Prelude.{IsTrue}
use Rattle.whole_run.specs.View.{run_in}
use Rattle.whole_run.specs.Gives.{IsBackBy}
use Rattle.whole_run.specs.inner.Kept.{batch_in, stage_of}
use Rattle.whole_run.proofs.AllHome.{home-is, out-is}
use Rattle.whole_run.proofs.parts.detecting.all_home.Goals as goal

pub returns-in-Selective : goal.returns-in-Selective
returns-in-Selective c =
    let batch = batch_in c.args.plan.now in
    let at = stage_of batch c.args.parts.now.events.items in
    subst (λ recovery. IsTrue (not c.lent.result) ↔ IsBackBy recovery (run_in batch) at) (sym c.in-Selective.is)
    (home-is batch c.args.parts.now c.requires.kept c.lent.result c.lent.ensures)

pub returns-in-Rollback : goal.returns-in-Rollback
returns-in-Rollback c =
    let batch = batch_in c.args.plan.now in
    let at = stage_of batch c.args.parts.now.events.items in
    subst (λ recovery. IsTrue (not c.any_out.result) ↔ IsBackBy recovery (run_in batch) at) (sym c.in-Rollback.is)
    (out-is batch c.args.parts.now c.requires.kept c.any_out.result c.any_out.ensures)
