use Rattle.std.proofs.Common.{◌≡◌, sym, ◌∙◌, get_or, arith, rules, SFits, w64}
use Rattle.std.specs.Prelude.{pos}
use Rattle.std.proofs.lemmas.Int.{to_z-of_z}
use Rattle.retirement_log.proofs.Cells.{beside_here, beside_past, beside_end}
use Rattle.retirement_log.proofs.rows.value_beside.Goals as goal

pub returns-then-number-cell : goal.returns-then-number-cell
returns-then-number-cell c = λ other.
    let value = get_or c.args.values.now c.loop-at.at (pos 0) in
    let fits : SFits w64 value = search rules in
    let cell : c.args.cell ≡ get_or c.args.cells.now c.loop-at.at c.index-cells-at.result
    = sym c.cell.view_is ∙ sym c.if-number-cell.true ∙ c.number.view_is ∙ c.index-cells-at.is in
    to_z-of_z w64 value fits
    ∙ beside_here c.args.cells.now c.args.values.now c.args.cell c.loop-at.at other c.index-cells-at.result (omega arith) (omega arith) cell
    ∙ c.loop-at.invariant other

pub loop-at-preserved : goal.loop-at-preserved
loop-at-preserved c = λ other.
    beside_past c.args.cells.now c.args.values.now c.args.cell c.loop-at.at other c.index-cells-at.result (omega arith) (omega arith)
    (λ (same : c.args.cell ≡ get_or c.args.cells.now c.loop-at.at c.index-cells-at.result).
    c.if-number-cell.false (c.number.view_is ∙ c.index-cells-at.is ∙ sym same ∙ sym c.cell.view_is))
    ∙ c.loop-at.invariant other

pub returns : goal.returns
returns c = λ other.
    sym (beside_end c.args.cells.now c.args.values.now c.args.cell c.loop-at.at other (omega arith)) ∙ c.loop-at.invariant other
