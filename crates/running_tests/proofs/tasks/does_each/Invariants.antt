use Rattle.running_tests.specs.Named.{FitsWithoutCells}
use Rattle.running_tests.proofs.tasks.does_each.Given as goal

abbrev pub invariant-loop-step : goal.invariant-loop-step
invariant-loop-step l = FitsWithoutCells l.task
