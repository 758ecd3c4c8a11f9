use Rattle.running_tests.proofs.Naming.{without_cells}
use Rattle.running_tests.proofs.tasks.free.Goals as goal

pub returns : goal.returns
returns c = record { fits = λ work low. without_cells work _ c.new.ensures c.requires low }
