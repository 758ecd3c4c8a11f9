use Rattle.task_parser.proofs.OneSpelling.{some_meaning, one_meaning, one_spelling}
use Rattle.task_parser.proofs.parse_laws.one_meaning.Goals as goal

pub returns : goal.returns
returns c = record { some = some_meaning; one = one_meaning; program = one_spelling }
