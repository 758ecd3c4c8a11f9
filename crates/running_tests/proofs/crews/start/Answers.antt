use Rattle.running_tests.proofs.Naming.{without_cells}
use Rattle.running_tests.proofs.crews.start.Goals as goal

pub returns-clause-fits : goal.returns-clause-fits
returns-clause-fits c = λ work low. without_cells work _ c.new-2.ensures tt low
