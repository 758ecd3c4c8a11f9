use Rattle.task_ast.proofs.SeatLimits.{seats_law, most_threads_law}
use Rattle.task_ast.proofs.table_laws.seat_laws.Goals as goal

pub returns : goal.returns
returns c = record { turn = seats_law; most = most_threads_law }
