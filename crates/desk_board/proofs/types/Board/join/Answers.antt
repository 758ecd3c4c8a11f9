use Rattle.std.proofs.Common.{arith}
use Rattle.desk_board.proofs.Seats.{joins}
use Rattle.desk_board.proofs.BoardHands.{hand_laws}
use Rattle.desk_board.proofs.types.Board.join.Goals as goal

pub join_seat-requires : goal.join_seat-requires
join_seat-requires g c = (
  c.requires.of.0.0.0,
  c.requires.of.1.0.0,
  c.args.other.bare,
  omega arith,
  joins (hand_laws g.J.Job.is_run) g.J.Job.fits _ _ _ _ _ c.args.into.now.part c.args.other.plain,
)
