use Rattle.std.proofs.Common.{◌≤◌, subst, sym}
use Rattle.gp_base.specs.declared.limits.TheConstants.{MOST_CELLS}
use Rattle.task_ast.specs.meaning.Names.{locks_of, records_of, cells_in}
use Rattle.task_ast.specs.View.{plain_program}
use Rattle.lock_checker.proofs.BaseLemmas.{accepted_small}
use Rattle.lock_checker.proofs.checked.Checked.of.Goals as goal

pub number_cells-requires-clause-locks : goal.number_cells-requires-clause-locks
number_cells-requires-clause-locks c =
    subst (λ heads. cells_in (locks_of heads) ≤ MOST_CELLS) (sym c.as_slice.ensures)
    (accepted_small (plain_program c.args.program) c.requires.faultless).0

pub number_cells-requires-clause-records : goal.number_cells-requires-clause-records
number_cells-requires-clause-records c =
    subst (λ heads. cells_in (records_of heads) ≤ MOST_CELLS) (sym c.as_slice.ensures)
    (accepted_small (plain_program c.args.program) c.requires.faultless).1
