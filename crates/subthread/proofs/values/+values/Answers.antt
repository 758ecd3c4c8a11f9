use Rattle.std.proofs.Common.{arith, rules, ◌∙◌, FitsSigned, w64}
use Rattle.std.proofs.lemmas.Int.{to_z-of_z}
use Rattle.subthread.proofs.Terms.{value_on_none, value_from-some, value_from-none}
use Rattle.task_code.proofs.Views.{view}
use Rattle.subthread.proofs.values.+values.Goals as goal

pub chain_value-returns-in_err-value_in : goal.chain_value-returns-in_err-value_in
chain_value-returns-in_err-value_in t c =
    c.from_residual.ensures ∙ value_from-none _ _ _ c.member-item.result _ c.loop-member-test.true c.member-item.is c.in_err-value_in.ensures
    ∙ (rw (to_z-of_z w64 c.args.first c.ranges.first) at c.loop-member.invariant)

pub chain_value-loop-member-preserved : goal.chain_value-loop-member-preserved
chain_value-loop-member-preserved t c =
    let fits : FitsSigned w64 c.in_ok-value_in.field-0 = search rules in
    let fits_new : FitsSigned w64 c.apply-so_far.result = search rules in
    rw (to_z-of_z w64 c.apply-so_far.result fits_new, c.apply-so_far.ensures, to_z-of_z w64 c.in_ok-value_in.field-0 fits)
    (value_from-some _ _ _ c.member-item.result _ _ c.loop-member-test.true c.member-item.is c.in_ok-value_in.ensures ∙ c.loop-member.invariant)

pub value_in-returns-in-Const : goal.value_in-returns-in-Const
value_in-returns-in-Const t c = grind (arith, view, value_on_none)

pub value_in-returns-in-Ctl : goal.value_in-returns-in-Ctl
value_in-returns-in-Ctl t c = grind (arith, view, value_on_none)

pub value_in-returns-in-Reg : goal.value_in-returns-in-Reg
value_in-returns-in-Reg t c = grind (arith, view, value_on_none)

pub value_in-returns-in-Me : goal.value_in-returns-in-Me
value_in-returns-in-Me t c = grind (arith, view, value_on_none)

pub value_in-returns-in-Rows : goal.value_in-returns-in-Rows
value_in-returns-in-Rows t c = grind (arith, view, value_on_none)

pub value_in-returns-in-Some : goal.value_in-returns-in-Some
value_in-returns-in-Some t c = grind (arith, view, value_on_none)

pub value_in-returns-in-None : goal.value_in-returns-in-None
value_in-returns-in-None t c = grind (arith, view, value_on_none)

pub value_in-returns-in-Neg : goal.value_in-returns-in-Neg
value_in-returns-in-Neg t c = grind (arith, view, value_on_none)

pub value_in-returns-in-Not : goal.value_in-returns-in-Not
value_in-returns-in-Not t c = grind (arith, view, value_on_none)

pub value_in-returns-in-Some-value_in : goal.value_in-returns-in-Some-value_in
value_in-returns-in-Some-value_in t c = grind (arith, view, value_on_none)

pub value_in-returns-in-None-value_in : goal.value_in-returns-in-None-value_in
value_in-returns-in-None-value_in t c = grind (arith, view, value_on_none)

pub value_in-returns-in-NoValue : goal.value_in-returns-in-NoValue
value_in-returns-in-NoValue t c = grind (arith, view, value_on_none)
