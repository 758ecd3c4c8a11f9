use Rattle.rule_blame.proofs.Blaming.{twice_at}
use Rattle.rule_blame.proofs.entries.find_twice.Goals as goal

pub returns-in-Some : goal.returns-in-Some
returns-in-Some c =
    twice_at c.args.entries.now c.loop-at.at c.index-entries-at.result c.in-Some.first.line c.args.line c.loop-at-test.true
    c.index-entries-at.is c.if-entry-line.true c.in-Some.ensures
