use Rattle.std.proofs.Common.{rules}
use Rattle.reorder_list.proofs.rol.raise_entry.Goals as goal

pub returns-clause-entry : goal.returns-clause-entry
returns-clause-entry c = search rules
