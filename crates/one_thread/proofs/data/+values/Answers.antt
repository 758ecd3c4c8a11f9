use Rattle.std.proofs.Common.{rules, ◌∙◌, FitsSigned, w64}
use Rattle.std.proofs.lemmas.Int.{to_z-of_z}
use Rattle.task_ast.proofs.Values.{value_from-some, value_from-none}
use Rattle.one_thread.proofs.data.+values.Goals as goal

pub chain_value-returns-in_err-value_in : goal.chain_value-returns-in_err-value_in
chain_value-returns-in_err-value_in t c =
    c.from_residual.ensures ∙ value_from-none _ _ _ c.link-item.result _ c.loop-link-test.true c.link-item.is c.in_err-value_in.ensures
    ∙ (rw (to_z-of_z w64 c.args.first c.ranges.first) at c.loop-link.invariant)

pub chain_value-loop-link-preserved : goal.chain_value-loop-link-preserved
chain_value-loop-link-preserved t c =
    let fits : FitsSigned w64 c.in_ok-value_in.field-0 = search rules in
    let fits_new : FitsSigned w64 c.apply-so_far.result = search rules in
    rw (to_z-of_z w64 c.apply-so_far.result fits_new, c.apply-so_far.ensures, to_z-of_z w64 c.in_ok-value_in.field-0 fits)
    (value_from-some _ _ _ c.link-item.result _ _ c.loop-link-test.true c.link-item.is c.in_ok-value_in.ensures ∙ c.loop-link.invariant)
