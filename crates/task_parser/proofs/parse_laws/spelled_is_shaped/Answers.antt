use Rattle.task_parser.proofs.ShapedSpelling.{spelled_is_shaped}
use Rattle.task_parser.proofs.parse_laws.spelled_is_shaped.Goals as goal

pub returns : goal.returns
returns c = spelled_is_shaped
