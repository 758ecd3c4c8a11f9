use Rattle.whole_run.specs.inner.Kept.{batch_in}
use Rattle.whole_run.proofs.Opened.{place_opens}
use Rattle.whole_run.proofs.parts.beginning.first_place.Goals as goal

pub returns : goal.returns
returns c = place_opens (batch_in c.args.plan.now) c.main-task.result c.new.result c.in_ok-ctl.ctl c.main-task.ensures c.new.ensures
    c.in_ok-ctl.ensures
