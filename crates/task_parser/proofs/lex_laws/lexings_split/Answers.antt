use Rattle.task_parser.proofs.LexSplits.{lexings_split}
use Rattle.task_parser.proofs.lex_laws.lexings_split.Goals as goal

pub returns : goal.returns
returns c = lexings_split
