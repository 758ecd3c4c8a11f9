use Rattle.std.proofs.Common.{refl, Some, None}
use Rattle.std.specs.Prelude.{Ok, codes}
use Rattle.command_line.specs.meaning.Words.{texts}
use Rattle.command_line.specs.meaning.WhyWords.{for_why, sought_in}
use Rattle.command_line.proofs.AskedFacts.{read_named}
use Rattle.command_line.proofs.why_words.read_why_words.Goals as goal

pub returns-in-Some-clause-sought : goal.returns-in-Some-clause-sought
unfolding for_why
returns-in-Some-clause-sought c =
    read_named sought_in for_why (texts c.args.words.now) (Some c.in-Some.matches) c.in_ok-matches.field-0 c.in-Some.is c.sought_in.result
    c.sought_in.ensures.sought (codes "why") c.in_ok-matches.ensures

pub returns-in-None-clause-sought : goal.returns-in-None-clause-sought
unfolding for_why
returns-in-None-clause-sought c =
    read_named sought_in for_why (texts c.args.words.now) None c.in_ok-matches.field-0 c.in-None.is (Ok None) refl (codes "why")
    c.in_ok-matches.ensures
