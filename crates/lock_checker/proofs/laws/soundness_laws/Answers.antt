use Rattle.lock_checker.proofs.LocksHeld.{stands_first, move_keeps, before_stands, sound, ended_owns}
use Rattle.lock_checker.proofs.laws.soundness_laws.Goals as goal

pub returns : goal.returns
returns c = record { first = stands_first; moves = move_keeps; before = before_stands; sound = sound; ended = ended_owns }
