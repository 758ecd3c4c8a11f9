use Rattle.task_ast.proofs.SeatLimits.{needs_law, needed_law}
use Rattle.task_ast.proofs.table_laws.need_laws.Goals as goal

pub returns : goal.returns
returns c = record { needed = needed_law; least = needs_law }
