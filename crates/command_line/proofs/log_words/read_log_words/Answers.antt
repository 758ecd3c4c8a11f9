use Rattle.std.proofs.Common.{refl, Some, None}
use Rattle.std.specs.Prelude.{Ok, codes}
use Rattle.command_line.specs.meaning.Words.{texts}
use Rattle.command_line.specs.meaning.LogWords.{for_log, log_in}
use Rattle.command_line.proofs.AskedFacts.{read_named}
use Rattle.command_line.proofs.log_words.read_log_words.Goals as goal

pub returns-in-Some-clause-asked : goal.returns-in-Some-clause-asked
unfolding for_log
returns-in-Some-clause-asked c =
    read_named log_in for_log (texts c.args.words.now) (Some c.in-Some.matches) c.in_ok-matches.field-0 c.in-Some.is c.log_in.result
    c.log_in.ensures.asked (codes "log") c.in_ok-matches.ensures

pub returns-in-None-clause-asked : goal.returns-in-None-clause-asked
unfolding for_log
returns-in-None-clause-asked c =
    read_named log_in for_log (texts c.args.words.now) None c.in_ok-matches.field-0 c.in-None.is (Ok None) refl (codes "log")
    c.in_ok-matches.ensures
