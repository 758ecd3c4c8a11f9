use Rattle.std.proofs.Common.{◌≡◌, ◌+◌, ◌≤◌, ◌∙◌, ap, sym, subst, rules, arith, option_map, w64, SFits}
use Rattle.std.proofs.lemmas.Int.{to_z-of_z}
use Rattle.task_ast.specs.meaning.Names.{records_of, place}
use Rattle.lock_checker.specs.declared.cells.CellRange.{CellRange}
use Rattle.lock_checker.specs.Cells.{cells_of}
use Rattle.one_thread.proofs.Ranges.{cell-is, cells-within}
use Rattle.one_thread.proofs.cells.record_number.Goals as goal

pub cell_at-requires : goal.cell_at-requires
cell_at-requires c =
    let cells : c.record_array.result ≡ cells_of (records_of c.args.program.now.program.heads) c.args.r.now = search rules in
    let within = cells-within (records_of c.args.program.now.program.heads) c.args.r.now in
    subst (λ (cells : CellRange). cells.first + cells.size ≤ 65536) (sym cells) (omega (within, c.requires, arith))

pub returns : goal.returns
returns c =
    let fits : SFits w64 c.args.index = search rules in
    let cells : c.record_array.result ≡ cells_of (records_of c.args.program.now.program.heads) c.args.r.now = search rules in
    c.cell_at.ensures
    ∙ ap (λ i. option_map (λ n. c.record_array.result.first + n) (place c.record_array.result.size i)) (to_z-of_z w64 c.args.index fits)
    ∙ ap (λ (cells : CellRange). option_map (λ n. cells.first + n) (place cells.size c.args.index)) cells
    ∙ cell-is (records_of c.args.program.now.program.heads) c.args.r.now c.args.index
