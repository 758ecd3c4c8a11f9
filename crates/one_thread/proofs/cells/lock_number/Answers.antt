use Rattle.std.proofs.Common.{◌≡◌, ◌+◌, ◌≤◌, ◌∙◌, ap, sym, subst, rules, arith, option_map, w64, SFits}
use Rattle.std.proofs.lemmas.Int.{to_z-of_z}
use Rattle.task_ast.specs.meaning.Names.{locks_of, place}
use Rattle.lock_checker.specs.declared.cells.CellRange.{CellRange}
use Rattle.lock_checker.specs.Cells.{cells_of}
use Rattle.one_thread.proofs.Ranges.{cell-is, cells-within}
use Rattle.one_thread.proofs.cells.lock_number.Goals as goal

pub cell_at-requires : goal.cell_at-requires
cell_at-requires c =
    let cells : c.lock_array.result ≡ cells_of (locks_of c.args.program.now.program.heads) c.args.array.now = search rules in
    let within = cells-within (locks_of c.args.program.now.program.heads) c.args.array.now in
    subst (λ (cells : CellRange). cells.first + cells.size ≤ 65536) (sym cells) (omega (within, c.requires, arith))

pub returns : goal.returns
returns c =
    let fits : SFits w64 c.args.index = search rules in
    let cells : c.lock_array.result ≡ cells_of (locks_of c.args.program.now.program.heads) c.args.array.now = search rules in
    c.cell_at.ensures
    ∙ ap (λ i. option_map (λ n. c.lock_array.result.first + n) (place c.lock_array.result.size i)) (to_z-of_z w64 c.args.index fits)
    ∙ ap (λ (cells : CellRange). option_map (λ n. cells.first + n) (place cells.size c.args.index)) cells
    ∙ cell-is (locks_of c.args.program.now.program.heads) c.args.array.now c.args.index
