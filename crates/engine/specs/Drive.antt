-- What a run that restarts selectively is asked to run.
use Rattle.gp_base.specs.declared.limits.Limits.{Limits}
use Rattle.gp_base.specs.declared.feed.Inputs.{Inputs}
use Rattle.gp_base.specs.declared.fault.Faults.{Faults}
use Rattle.subthread.specs.declared.task.Work.{Work}
use Rattle.whole_run.specs.declared.recovery.Recovery.TheVariants.{Selective}
use Rattle.whole_run.specs.View.{Batch}
use Rattle.whole_run.specs.Drive as whole

abbrev pub batch_of : Work → Inputs → Limits → Faults → Batch
batch_of w inputs limits faults = whole.batch_of Selective w inputs limits faults
