use Rattle.rollback.proofs.Driving.{initial-driving, happens-driving, driving-journal, rest-safe}
use Rattle.rollback.proofs.driving_laws.stage_laws.Goals as goal

pub returns : goal.returns
returns c = record { initial = initial-driving; event = happens-driving; journal = driving-journal; safe = rest-safe }
