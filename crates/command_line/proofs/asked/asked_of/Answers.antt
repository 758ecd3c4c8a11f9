use Rattle.std.proofs.Common.{refl, Some, None}
use Rattle.std.specs.Prelude.{Ok}
use Rattle.command_line.specs.meaning.Words.{texts, app_for, asked_in}
use Rattle.command_line.proofs.AskedFacts.{read_found}
use Rattle.command_line.proofs.asked.asked_of.Goals as goal

pub returns-in-Some-clause-asked : goal.returns-in-Some-clause-asked
returns-in-Some-clause-asked c =
    read_found (asked_in c.args.waits c.args.verb) (app_for c.args.verb) (texts c.args.words.now) (Some c.in-Some.matches)
    c.in_ok-matches.field-0 c.in-Some.is c.asked_in.result c.asked_in.ensures.asked c.in_ok-matches.ensures

pub returns-in-None-clause-asked : goal.returns-in-None-clause-asked
returns-in-None-clause-asked c =
    read_found (asked_in c.args.waits c.args.verb) (app_for c.args.verb) (texts c.args.words.now) None c.in_ok-matches.field-0 c.in-None.is
    (Ok None) refl c.in_ok-matches.ensures
