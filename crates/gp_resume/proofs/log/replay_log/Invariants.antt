use Rattle.std.proofs.Common.{length}
use Rattle.gp_resume.specs.inner.Going.{HasReplayed}
use Rattle.gp_resume.proofs.log.replay_log.Given as goal

abbrev pub invariant-replaying : goal.invariant-replaying
invariant-replaying l = HasReplayed l.plan l.log l.rest l.logged l.course

abbrev pub decreases-replaying : goal.decreases-replaying
decreases-replaying l = length l.rest
