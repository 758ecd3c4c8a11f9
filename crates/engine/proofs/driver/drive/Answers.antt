use Rattle.whole_run.proofs.Causes.{never-fails}
use Rattle.engine.proofs.driver.drive.Goals as goal

pub returns-clause-cause : goal.returns-clause-cause
returns-clause-cause g c =
    never-fails (g.O.Sink.faults c.args.out.now) (g.O.Sink.faults c.drive_noted.new.out) c.drive_noted.result c.drive_noted.ensures.cause
