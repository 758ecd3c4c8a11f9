use Rattle.std.proofs.Common.{arith}
use Rattle.desk_board.proofs.Seats.{cuts}
use Rattle.desk_board.proofs.BoardHands.{hand_laws}
use Rattle.desk_board.proofs.types.Board.split.Goals as goal

pub split_seat-seat-requires : goal.split_seat-seat-requires
split_seat-seat-requires g c = (c.requires.of.0.0, omega arith, cuts (hand_laws g.J.Job.is_run) g.J.Job.fits _ _ _ c.requires.share)
