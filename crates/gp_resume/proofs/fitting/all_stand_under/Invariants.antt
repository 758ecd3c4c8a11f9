use Rattle.std.proofs.Common.{ℕ, ℤ, ◌<◌, get_or}
use Rattle.task_ast.specs.meaning.Layout.{layout}
use Rattle.task_code.specs.Flat.{code_of}
use Rattle.gp_resume.specs.meaning.Fitting.{StandsUnder}
use Rattle.gp_resume.proofs.fitting.all_stand_under.Given as goal

abbrev pub invariant-loop-cell : goal.invariant-loop-cell
invariant-loop-cell l =
    (k : ℕ) (d : ℤ × ℤ) → k < l.cell-index → StandsUnder (layout (code_of l.code).program.heads).under l.held (get_or l.cells k d).0
