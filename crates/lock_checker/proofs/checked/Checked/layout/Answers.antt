use Rattle.std.proofs.Common.{◌∙◌, ◌≤◌, ◌+◌, ℕ, List, ap, arith, length, map, subst, sym}
use Rattle.gp_base.specs.declared.limits.TheConstants.{MOST_CELLS}
use Rattle.task_ast.specs.meaning.Names.{locks_of, cells_in}
use Rattle.task_ast.specs.meaning.Layout.{cells_under}
use Rattle.task_ast.specs.meaning.Table.{numbers}
use Rattle.task_ast.specs.View.{plain_program}
use Rattle.task_ast.proofs.Layouts.{accepted_sizes}
use Rattle.lock_checker.specs.inner.Positions.{positions, cells_over}
use Rattle.lock_checker.proofs.BaseLemmas.{accepted_small}
use Rattle.lock_checker.proofs.LayoutLemmas.{length-cells_over, map_numbers, under_told}
use Rattle.lock_checker.proofs.checked.Checked.layout.Goals as goal

pub cells_by_lock-requires : goal.cells_by_lock-requires
cells_by_lock-requires c =
    let heads = c.args.self.now.program.heads in
    let less = length-cells_over (locks_of heads) heads in
    let most = (accepted_small (plain_program c.args.self.now.program) c.args.self.now.accepted.faultless).1 in
    subst (λ l. length l ≤ MOST_CELLS) (sym (c.deref.ensures.value ∙ c.in_ok-over.ensures)) (omega arith)

pub returns : goal.returns
returns c =
    let heads = c.args.self.now.program.heads in
    let fits = accepted_sizes (plain_program c.args.self.now.program) c.args.self.now.accepted in
    ap (λ (cells : List (List ℕ)). record { under = cells }) (
    c.in_ok-under.ensures
    ∙ ap (λ l. map (positions 0 l) (numbers 0 c.args.self.now.locks.count)) (c.deref.ensures.value ∙ c.in_ok-over.ensures)
    ∙ ap (λ n. map (positions 0 (cells_over (locks_of heads) heads)) (numbers 0 n)) c.args.self.now.locks_numbered.count
    ∙ map_numbers (positions 0 (cells_over (locks_of heads) heads)) (cells_under heads) 0 0 (cells_in (locks_of heads))
    (λ k less. under_told heads fits (0 + k)))
