use Rattle.task_parser.proofs.LexPlaces.{tokens_are_placed}
use Rattle.task_parser.proofs.lex_laws.tokens_are_placed.Goals as goal

pub returns : goal.returns
returns c = tokens_are_placed
