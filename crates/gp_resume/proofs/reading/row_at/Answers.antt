use Rattle.std.proofs.Common.{◌≡◌, ◌++◌, sym, subst, ℤ}
use Rattle.std.specs.Prelude.{All}
use Rattle.retirement_log.specs.meaning.Rows.{Retirement, group, row_text, IsWide, IsWideRow}
use Rattle.gp_resume.specs.inner.Fronts.{IsOnlyFront, EndsNumbers, IsWideCell, Anything, cells_end}
use Rattle.gp_resume.proofs.Numerals.{kept}
use Rattle.gp_resume.proofs.RowFronts.{none-begins, no-head, no-regs, no-child, no-end, row-whole}
use Rattle.gp_resume.proofs.reading.row_at.Goals as goal
use Rattle.gp_resume.proofs.reading.row_at.Goals.{In-Some-2, In-Some-3}

regs-read : (c : In-Some-2) → IsOnlyFront group (All IsWide) EndsNumbers c.in-Some.rest.now c.in-Some-2.regs c.in-Some-2.rest.now
regs-read c = rw c.in-Some-2.is at c.in_ok-regs.ensures

child-read : (c : In-Some-3) → IsOnlyFront group (All IsWide) EndsNumbers c.in-Some-2.rest.now c.in-Some-3.child c.in-Some-3.rest.now
child-read c = rw c.in-Some-3.is at c.in_ok-child.ensures

pub returns-in_default : goal.returns-in_default
returns-in_default c = none-begins c.args.bytes.now (no-head c.args.bytes.now c.in_default.ensures)

pub returns-in_default-2 : goal.returns-in_default-2
returns-in_default-2 c =
    none-begins c.args.bytes.now
    (no-regs c.args.bytes.now c.in-Some.rest.now (c.in-Some.position, c.in-Some.size) c.in-Some.ensures
    (rw c.in_default-2.is at c.in_ok-regs.ensures))

pub returns-in_default-3 : goal.returns-in_default-3
returns-in_default-3 c =
    none-begins c.args.bytes.now
    (no-child c.args.bytes.now c.in-Some.rest.now (c.in-Some.position, c.in-Some.size) c.in-Some.ensures c.in-Some-2.regs
    c.in-Some-2.rest.now (regs-read (goal.at.returns-in_default-3 c).In-Some-2)
    (rw c.in_default-3.is at c.in_ok-child.ensures))

pub returns-in_default-4 : goal.returns-in_default-4
returns-in_default-4 c =
    none-begins c.args.bytes.now
    (no-end c.args.bytes.now c.in-Some.rest.now (c.in-Some.position, c.in-Some.size) c.in-Some.ensures c.in-Some-2.regs c.in-Some-2.rest.now
    (regs-read (goal.at.returns-in_default-4 c).In-Some-2)
    c.in-Some-3.child c.in-Some-3.rest.now (child-read (goal.at.returns-in_default-4 c).In-Some-3)
    (rw c.in_default-4.is at c.in_ok-cells.ensures))

pub returns : goal.returns
returns c =
    let last : IsOnlyFront cells_end (All IsWideCell) Anything c.in-Some-3.rest.now c.in-Some-4.cells c.in-Some-4.rest.now =
    rw c.in-Some-4.is at c.in_ok-cells.ensures in
    let whole =
    row-whole c.args.bytes.now c.in-Some.rest.now (c.in-Some.position, c.in-Some.size) c.in-Some.ensures c.in-Some-2.regs
    c.in-Some-2.rest.now (regs-read (goal.at.returns c).In-Some-2)
    c.in-Some-3.child c.in-Some-3.rest.now (child-read (goal.at.returns c).In-Some-3) c.in-Some-4.cells c.in-Some-4.rest.now last in
    let row : ℤ → ℤ → Retirement =
    λ p b. record { position = p; bytes = b; regs = c.in-Some-2.regs; child = c.in-Some-3.child; cells = c.in-Some-4.cells } in
    let position = sym (kept c.in-Some.position whole.fit.position) in
    let size = sym (kept c.in-Some.size whole.fit.bytes) in
    subst (λ (r : Retirement). IsWideRow r × (c.args.bytes.now ≡ row_text r ++ c.in-Some-4.rest.now)) (λ i. row (position i) (size i))
    (whole.fit, whole.bytes_are)
