use Rattle.std.proofs.Common.{get_or, arith, rules, subst, SFits, w64}
use Rattle.std.specs.Prelude.{pos, All}
use Rattle.std.proofs.lemmas.List.{take_all}
use Rattle.retirement_log.specs.meaning.Rows.{IsWide}
use Rattle.retirement_log.proofs.WideNumbers.{wide_of, one_more}
use Rattle.run_told.proofs.told.are_wide.Goals as goal

pub loop-value-preserved : goal.loop-value-preserved
loop-value-preserved c =
    let value = get_or c.args.values.now c.loop-value.value-index (pos 0) in
    let fits : SFits w64 value = search rules in
    one_more IsWide c.args.values.now c.loop-value.value-index (pos 0) (omega arith) (wide_of value fits) c.loop-value.invariant

pub returns : goal.returns
returns c = subst (All IsWide) (take_all c.loop-value.value-index c.args.values.now (omega arith)) c.loop-value.invariant
