use Rattle.std.proofs.Common.{rules, ◌∙◌, FitsSigned, w64}
use Rattle.std.proofs.lemmas.Int.{to_z-of_z}
use Rattle.task_ast.proofs.Values.{value_from-some, value_from-none}
use Rattle.task_ast.proofs.eval.+eval.Goals as goal

pub eval_links-returns-in_err-eval_in : goal.eval_links-returns-in_err-eval_in
eval_links-returns-in_err-eval_in t c =
    c.from_residual.ensures ∙ value_from-none _ _ _ c.link-item.result _ c.loop-link-test.true c.link-item.is c.in_err-eval_in.ensures
    ∙ (rw (to_z-of_z w64 c.args.first c.ranges.first) at c.loop-link.invariant)

pub eval_links-loop-link-preserved : goal.eval_links-loop-link-preserved
eval_links-loop-link-preserved t c =
    let fits : FitsSigned w64 c.in_ok-eval_in.field-0 = search rules in
    let fits_new : FitsSigned w64 c.apply-so_far.result = search rules in
    rw (to_z-of_z w64 c.apply-so_far.result fits_new, c.apply-so_far.ensures, to_z-of_z w64 c.in_ok-eval_in.field-0 fits)
    (value_from-some _ _ _ c.link-item.result _ _ c.loop-link-test.true c.link-item.is c.in_ok-eval_in.ensures ∙ c.loop-link.invariant)
