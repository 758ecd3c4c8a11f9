use Rattle.desk_board.proofs.Seats.{opened}
use Rattle.desk_board.proofs.BoardHands.{hand_laws}
use Rattle.desk_board.proofs.types.Board.new.Goals as goal

pub lay_table-requires-clause-opens : goal.lay_table-requires-clause-opens
lay_table-requires-clause-opens g c κs within = opened (hand_laws g.J.Job.is_run) g.J.Job.fits
