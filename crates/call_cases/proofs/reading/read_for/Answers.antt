use Rattle.call_cases.proofs.Refused.{made_case}
use Rattle.call_cases.proofs.reading.read_for.Goals as goal

pub returns-in-Soak-clause-case : goal.returns-in-Soak-clause-case
returns-in-Soak-clause-case g c =
    made_case (g.H.Shelf.files c.args.shelf.now) c.args.asked c.in-Soak.soak c.read_made.result c.in-Soak.is c.read_made.ensures.case

pub returns-in-Soak-clause-shelf : goal.returns-in-Soak-clause-shelf
returns-in-Soak-clause-shelf g c = c.read_made.ensures.shelf (g.H.Shelf.failed c.args.shelf.now)
