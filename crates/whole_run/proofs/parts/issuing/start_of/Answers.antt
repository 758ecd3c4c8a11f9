use Rattle.whole_run.specs.inner.Kept.{batch_in}
use Rattle.whole_run.proofs.IssuesKept.{starts_so}
use Rattle.whole_run.proofs.parts.issuing.start_of.Goals as goal

pub returns-in_ok-ctl-in-Fork : goal.returns-in_ok-ctl-in-Fork
returns-in_ok-ctl-in-Fork c =
    starts_so (batch_in c.args.plan.now) c.args.threads c.args.sync.now c.in-Fork.task c.in-Fork.args c.in_ok-ctl-in-Fork.ctl c.in-Fork.is
    c.in_ok-ctl-in-Fork.ensures
