use Rattle.whole_run.proofs.Causes.{never-fails}
use Rattle.gp_checkpoint.proofs.driver.ckpt_drive.Goals as goal

pub returns-clause-cause : goal.returns-clause-cause
returns-clause-cause g c =
    never-fails (g.O.Sink.faults c.args.out.now) (g.O.Sink.faults c.drive_by.new.out) c.drive_by.result c.drive_by.ensures.cause
