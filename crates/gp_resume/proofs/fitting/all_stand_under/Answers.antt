use Rattle.std.proofs.Common.{ℤ, pos, get_or, SFits, w64, rules, sym, ◌∙◌}
use Rattle.std.proofs.lemmas.Bool.{false≢true}
use Rattle.std.proofs.lemmas.Int.{to_z-of_z}
use Rattle.task_ast.specs.meaning.Layout.{layout}
use Rattle.task_code.specs.Flat.{code_of}
use Rattle.gp_resume.specs.meaning.Fitting.{StandsUnder}
use Rattle.gp_resume.proofs.UnderHeld.{each-more}
use Rattle.gp_resume.proofs.fitting.all_stand_under.Goals as goal

pub returns-then-not-stands_under : goal.returns-then-not-stands_under
returns-then-not-stands_under c =
    let number = (get_or c.args.cells.now c.loop-cell.cell-index (pos 0, pos 0)).0 in
    let fits : SFits w64 number = search rules in
    let here = rw (to_z-of_z w64 number fits) at c.stands_under.ensures in (
      λ wrong. absurd (false≢true wrong),
      λ all. absurd (false≢true (sym c.if-not-stands_under.true
          ∙ here.1 (all c.loop-cell.cell-index (pos 0, pos 0) c.loop-cell-test.true))),
    )

pub loop-cell-preserved : goal.loop-cell-preserved
loop-cell-preserved c =
    let number = (get_or c.args.cells.now c.loop-cell.cell-index (pos 0, pos 0)).0 in
    let fits : SFits w64 number = search rules in
    let here = rw (to_z-of_z w64 number fits) at c.stands_under.ensures in
    each-more (λ (cell : ℤ × ℤ). StandsUnder (layout (code_of c.args.code.now).program.heads).under c.args.held.now cell.0) c.args.cells.now
    c.loop-cell.cell-index (pos 0, pos 0) c.loop-cell-test.true c.loop-cell.invariant (here.0 c.if-not-stands_under.false)
