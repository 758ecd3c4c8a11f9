use Rattle.task_ast.proofs.Slots.{sets_first, sets_number, slot_sets, undeclared}
use Rattle.task_ast.proofs.value_laws.set_value_laws.Goals as goal

pub returns : goal.returns
returns c = record { first = sets_first; number = sets_number; slot = slot_sets; undeclared = undeclared }
