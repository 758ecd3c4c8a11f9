use Rattle.call_cases.proofs.Loads.{faults_told}
use Rattle.call_cases.proofs.inputs.read_struck.Goals as goal

pub returns-in-Some-clause-told : goal.returns-in-Some-clause-told
returns-in-Some-clause-told g c =
    faults_told (g.H.Shelf.files c.args.shelf.now) c.args.name.now c.in-Some.file (g.H.Shelf.failed c.args.shelf.now)
    (g.H.Shelf.failed c.faults_of.new.shelf) c.faults_of.result c.in-Some.is
    c.faults_of.ensures.told c.faults_of.ensures.failed
