-- From what a run may begin.
use Rattle.subthread.specs.Tasks.{Suits}
use Rattle.whole_run.specs.declared.batch.BatchRun.{BatchRun}
use Rattle.whole_run.specs.View.{Batch}
use Rattle.whole_run.specs.Recovering.{HasCuts}
use Rattle.whole_run.specs.Drive.{batch_of}

-- work, layout, inputs and limits suit one another, and there are cuts to roll back to
pub record CanBegin (run : BatchRun) : Type 0 where
  pub suits : Suits run.work.now run.layout run.inputs run.limits
  pub cuts : HasCuts run.recovery

-- the batch that a call of `drive_by` is asked to run
abbrev pub batch_asked : BatchRun → Batch
batch_asked run = batch_of run.recovery run.work.now run.inputs run.limits run.faults
