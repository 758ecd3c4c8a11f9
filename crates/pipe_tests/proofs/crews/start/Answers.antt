use Rattle.std.proofs.Common.{refl}
use Rattle.pipe_tests.proofs.Idle.{idle_fits}
use Rattle.pipe_tests.proofs.crews.start.Goals as goal

pub returns-clause-fits : goal.returns-clause-fits
returns-clause-fits c = λ work sound idle. idle_fits work _ c.new-2.ensures refl idle sound
