use Rattle.gp_resume.proofs.Replaying.{replay, is-rest}
use Rattle.gp_resume.proofs.laws.replay_laws.Goals as goal

pub returns : goal.returns
returns c = record { replay = replay; rest = is-rest }
