use Rattle.std.proofs.Common.{rules, to_z, ◌∙◌, ◌+◌, ◌&&◌, Some, drop, ap, FitsSigned, w64}
use Rattle.std.proofs.lemmas.Int.{to_z-of_z}
use Rattle.task_ast.specs.meaning.Value.{operate}
use Rattle.task_ast.specs.View.{plain_links}
use Rattle.task_ast.proofs.Values.{value_from-some, value_from-none}
use Rattle.exact_arithmetic.specs.Exact.{is_exact, stays_on}
use Rattle.exact_arithmetic.proofs.Links.{flag-more}
use Rattle.run_counts.specs.Data.{with_data}
use Rattle.run_counts.proofs.data.+values.Goals as goal

pub chain_data-returns-in_err-value-clause-value : goal.chain_data-returns-in_err-value-clause-value
chain_data-returns-in_err-value-clause-value t c =
    c.from_residual.ensures
    ∙ value_from-none _ _ _ c.link-item.result _ c.loop-link-test.true c.link-item.is c.in_err-value.ensures.value
    ∙ (rw (to_z-of_z w64 c.args.first c.ranges.first) at c.loop-link.invariant.value)

pub chain_data-loop-link-preserved : goal.chain_data-loop-link-preserved
chain_data-loop-link-preserved t c =
    let fits : FitsSigned w64 c.in_ok-value.value = search rules in
    let fits_new : FitsSigned w64 c.operated-so_far.result = search rules in
    let side = c.in_ok-value.ensures.value in
    let value = rw (to_z-of_z w64 c.in_ok-value.value fits) at c.operated-so_far.ensures.value in
    let flag = rw (to_z-of_z w64 c.in_ok-value.value fits) at c.operated-so_far.ensures.flag in
    let links = c.args.links.now in
    let env = with_data c.args.names.now c.args.registers.now c.args.env.now in
    let i = c.loop-link.link-index in
    let m = c.link-item.result in
    let a = to_z w64 c.loop-link.so_far-bits in
    let b = c.in_ok-value.value in
    record {
      value =
          rw (to_z-of_z w64 c.operated-so_far.result fits_new, value)
          (value_from-some links env i m a b c.loop-link-test.true c.link-item.is side ∙ c.loop-link.invariant.value);
      flag =
          rw (to_z-of_z w64 c.operated-so_far.result fits_new, value)
          (ap (λ e. e && stays_on (plain_links (drop (i + 1) links)) env (Some (operate m.0 a b)))
          (flag ∙ ap (λ e. e && is_exact m.0 a b) c.in_ok-value.ensures.flag)
          ∙ flag-more links env i m a b c.loop-link.exact c.loop-link-test.true c.link-item.is side
          ∙ c.loop-link.invariant.flag);
    }
