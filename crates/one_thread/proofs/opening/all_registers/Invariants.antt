use Rattle.std.proofs.Common.{◌≡◌, map, take}
use Rattle.one_thread.specs.Runs.{slots_of}
use Rattle.one_thread.proofs.opening.all_registers.Given as goal

abbrev pub invariant-loop-task : goal.invariant-loop-task
invariant-loop-task l = l.slots.items ≡ map slots_of (take l.task-index l.tasks)
