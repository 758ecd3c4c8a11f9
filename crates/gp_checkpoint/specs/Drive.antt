-- What a run that rolls back to cuts is asked to run.
use Rattle.std.specs.Prelude.{ℕ}
use Rattle.gp_base.specs.declared.limits.Limits.{Limits}
use Rattle.gp_base.specs.declared.feed.Inputs.{Inputs}
use Rattle.gp_base.specs.declared.fault.Faults.{Faults}
use Rattle.subthread.specs.declared.task.Work.{Work}
use Rattle.whole_run.specs.declared.recovery.Recovery.TheVariants.{Rollback}
use Rattle.whole_run.specs.View.{Batch}
use Rattle.whole_run.specs.Drive as whole

abbrev pub batch_of : (every : ℕ) → Work → Inputs → Limits → Faults → Batch
batch_of every w inputs limits faults = whole.batch_of (Rollback every) w inputs limits faults
