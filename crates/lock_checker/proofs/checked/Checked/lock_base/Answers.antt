use Rattle.std.proofs.Common.{◌∙◌, ◌≤◌, ap, option_map, subst, sym}
use Rattle.std.specs.Prelude.{IfSome}
use Rattle.gp_base.specs.declared.limits.TheConstants.{MOST_CELLS}
use Rattle.task_ast.specs.meaning.Names.{locks_of}
use Rattle.task_ast.specs.View.{plain_program}
use Rattle.lock_checker.proofs.CellLemmas.{first_is}
use Rattle.lock_checker.proofs.BaseLemmas.{accepted_small, base_small}
use Rattle.lock_checker.proofs.checked.Checked.lock_base.Goals as goal

pub returns-clause-small : goal.returns-clause-small
returns-clause-small c =
    let checked = c.args.self.now in
    let array = c.args.array.now in
    subst (λ base. IfSome base (λ n. n ≤ MOST_CELLS))
    (sym (c.first_cell.ensures ∙ ap (option_map (λ cells. cells.first)) (checked.locks_numbered.cells array)
    ∙ first_is (locks_of checked.program.heads) array))
    (base_small (locks_of checked.program.heads) array MOST_CELLS
    (accepted_small (plain_program checked.program) checked.accepted.faultless).0)
