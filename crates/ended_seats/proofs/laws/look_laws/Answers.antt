use Rattle.ended_seats.proofs.Idle.{past}
use Rattle.ended_seats.proofs.laws.look_laws.Goals as goal

pub returns : goal.returns
returns c = record { past = past }
