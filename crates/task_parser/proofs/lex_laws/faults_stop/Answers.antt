use Rattle.task_parser.proofs.LexSplits.{faults_stop}
use Rattle.task_parser.proofs.lex_laws.faults_stop.Goals as goal

pub returns : goal.returns
returns c = faults_stop
