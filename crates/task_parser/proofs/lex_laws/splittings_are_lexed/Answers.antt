use Rattle.task_parser.proofs.LexUnique.{splittings_are_lexed}
use Rattle.task_parser.proofs.lex_laws.splittings_are_lexed.Goals as goal

pub returns : goal.returns
returns c = splittings_are_lexed
